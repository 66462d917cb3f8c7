-- Chains of rounds.
use Rattle.std.proofs.Common.{◌≡◌, ℕ, zero, suc, ◌+◌, ◌<◌, ◌≤◌, eqb, ◌⊎◌, List, [], ◌∷◌, pos, ◌+ℤ◌, sym, subst, inl, inr, ⊎_elim, arith}
use Rattle.std.proofs.lemmas.Int.{ints}
use Rattle.std.proofs.lemmas.Bool.{cases_lt, ne_eqb, cond-false}
use Rattle.scheme.specs.Scheme.{Scheme}
use Rattle.scheme.specs.Flow.{Points, Side, Lawful, Greatest, Gap, value, among}
use Rattle.scheme.specs.Questions.{WellFormed}
use Rattle.scheme.specs.Crossings.{left_out}
use Rattle.flows.specs.Ordering.{Made}
use Rattle.flows.specs.Ordering.Taken.{first}
use Rattle.flows.specs.Push.{push}
use Rattle.flows.specs.PushLaws.{SameLimits}
use Rattle.flows.specs.Round.{Round, Rounds}
use Rattle.flows.specs.Round.Rounds.{none, more}
use Rattle.flows.specs.RoundLaws.{EverySchemeHasOneGap, ChainsAreBounded, CanSettle, EverySchemeSettles, SettledIsGreatest}
use Rattle.scheme.proofs.Signs.{value_is}
use Rattle.scheme.proofs.Cuts.{left_completes}
use Rattle.flows.proofs.Ends.{no_gain_least_side}
use Rattle.flows.proofs.Gaps.{gap_is, round_raises}
use Rattle.flows.proofs.Limits.{same_limits_self, limits_then, limits_formed, limits_side, limits_capacity, limits_greatest, greatest_once, greatest_most}
use Rattle.flows.proofs.Orders.{taken_side}
use Rattle.flows.proofs.WholePush.{push_raises}
use Rattle.flows.proofs.Searches.{has_ordering}

-- where a chain has come to
record Come (s t : Scheme) (count : ℕ) : Type 0 where
  limits : SameLimits s t
  lawful : Lawful t
  gained : ℕ
  raised : value t ≡ value s +ℤ pos gained
  each_gains : count ≤ gained

come_along : {s t : Scheme} {count : ℕ} → WellFormed s → Lawful s → Rounds s count t → Come s t count
come_along {s} formed lawful none =
    record { limits = same_limits_self s; lawful = lawful; gained = 0; raised = omega (arith, ints); each_gains = omega arith }
come_along {s} formed lawful (more {t = t} {u = u} {order = order} {keys = keys} {gain = gain} round some rest) =
    let leaves = round_raises s t order keys gain formed lawful round in
    let further = come_along leaves.formed leaves.lawful rest in
    record {
      limits = limits_then s t leaves.limits u further.limits;
      lawful = further.lawful;
      gained = gain + further.gained;
      raised = omega (arith, ints, leaves.raised, further.raised);
      each_gains = omega (arith, further.each_gains);
    }

-- what is left out of a side bounds what a flow under the same limits has gained
pub gained_within_side :
    (s t : Scheme) (x : Points) (gained : ℕ) → WellFormed s → Lawful s → Side s x → SameLimits s t → Lawful t
    → value t ≡ value s +ℤ pos gained → left_out t x + gained ≡ left_out s x
gained_within_side s t x gained formed lawful side limits lawful' raised =
    let here = left_completes s x formed lawful side in
    let there = left_completes t x (limits_formed s t limits formed) lawful' (limits_side s t limits x side) in
    omega (arith, ints, limits_capacity s t limits x, raised, value_is s, value_is t)

pub chains_bounded : ChainsAreBounded
chains_bounded s t count formed lawful rounds =
    let come = come_along formed lawful rounds in
    record {
      limits = come.limits;
      formed = limits_formed s t come.limits formed;
      lawful = come.lawful;
      gained = come.gained;
      raised = come.raised;
      each_gains = come.each_gains;
      within_gap = λ gap great.
          let most = greatest_most s t (gap_is s gap) come.limits come.lawful great in
          omega (arith, ints, come.raised, come.each_gains);
      within_side = λ x side.
          let left = gained_within_side s t x come.gained formed lawful side come.limits come.lawful come.raised in
          omega (arith, come.each_gains);
    }

-- ---- every chain can be brought to its end

-- a round that gains, after which less is left out of the side x
record Gaining (s : Scheme) (x : Points) : Type 0 where
  after : Scheme
  order : List ℕ
  keys : List ℕ
  gain : ℕ
  round : Round s order keys gain after
  some : 0 < gain
  limits : SameLimits s after
  lawful : Lawful after
  left : left_out after x < left_out s x

one_round : (s : Scheme) (x : Points) → WellFormed s → Lawful s → Side s x → CanSettle s ⊎ Gaining s x
one_round s x formed lawful side =
    let some = has_ordering s formed lawful in by_gain some.order some.keys some.gain some.made
  where
    by_gain : (order keys : List ℕ) (gain : ℕ) → Made s order keys gain → CanSettle s ⊎ Gaining s x
    by_gain order keys gain made =
        ⊎_elim
        (λ (some : 0 < gain).
        let pushed = push_raises s order keys gain formed lawful made some in
        let left = gained_within_side s (push s order gain) x gain formed lawful side pushed.limits pushed.lawful pushed.raised in
        inr (record {
          after = push s order gain;
          order = order;
          keys = keys;
          gain = gain;
          some = some;
          round = record { made = made; after = sym (cond-false (eqb gain 0) s (push s order gain) (ne_eqb gain 0 (omega arith))) };
          limits = pushed.limits;
          lawful = pushed.lawful;
          left = omega arith;
        }))
        (λ (end : gain ≤ 0).
        let zero : gain ≡ 0 = omega arith in
        inl (record { count = 0; after = s; settled = record { rounds = none; order = order; keys = keys; ended = rw zero at made } }))
        (cases_lt 0 gain)

settle : (fuel : ℕ) (s : Scheme) (x : Points) → WellFormed s → Lawful s → Side s x → left_out s x ≤ fuel → CanSettle s
settle zero s x formed lawful side enough =
    ⊎_elim (λ done. done) (λ (g : Gaining s x). absurd (omega (arith, g.left))) (one_round s x formed lawful side)
settle (suc fuel) s x formed lawful side enough =
    ⊎_elim (λ done. done)
    (λ (g : Gaining s x).
    let formed' = limits_formed s g.after g.limits formed in
    let side' = limits_side s g.after g.limits x side in
    let rest = settle fuel g.after x formed' g.lawful side' (omega (arith, g.left)) in
    let last = rest.settled in
    record {
      count = suc rest.count;
      after = rest.after;
      settled = record { rounds = more g.round g.some last.rounds; order = last.order; keys = last.keys; ended = last.ended };
    })
    (one_round s x formed lawful side)

-- the inlet alone is a side
pub inlet_side : (s : Scheme) → WellFormed s → Side s (among (s.inlet ∷ []))
inlet_side s formed = taken_side s formed.apart first

pub every_settles : EverySchemeSettles
every_settles s formed lawful =
    settle (left_out s (among (s.inlet ∷ []))) s (among (s.inlet ∷ [])) formed lawful (inlet_side s formed) (omega arith)

pub settled_greatest : SettledIsGreatest
settled_greatest s t count formed lawful settled =
    let come = come_along formed lawful settled.rounds in
    limits_greatest s t come.limits (value t)
    (no_gain_least_side t settled.order settled.keys (limits_formed s t come.limits formed) come.lawful settled.ended).greatest

pub one_gap : EverySchemeHasOneGap
one_gap s formed lawful =
    let some = every_settles s formed lawful in
    let come = come_along formed lawful some.settled.rounds in
    let great = settled_greatest s some.after some.count formed lawful some.settled in
    let is : Gap s come.gained = subst (Greatest s) come.raised great in
    record { gap = come.gained; is = is; only = λ other gap. omega (arith, ints, greatest_once s (gap_is s other) (gap_is s come.gained) gap is) }
