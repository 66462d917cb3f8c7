-- What an ordering says of the gap.
use Rattle.std.proofs.Common.{◌≡◌, ℕ, ◌+◌, ◌-◌, ◌*◌, ◌<◌, ◌≤◌, min, true, false, cond, eqb, ◌⊎◌, List, ℤ, pos, ◌+ℤ◌, sym, refl, ap, ◌∙◌, subst, inl, inr, ⊎_elim, add-mul, mul-add, arith}
use Rattle.std.proofs.lemmas.Int.{ints}
use Rattle.std.proofs.lemmas.Bool.{cases_Bool, cases_lt, both_ways, eq-eqb, ne_eqb, cond-true, cond-false}
use Rattle.scheme.specs.Scheme.{Scheme}
use Rattle.scheme.specs.Flow.{Points, Side, Lawful, Gap, value, among}
use Rattle.scheme.specs.Questions.{WellFormed}
use Rattle.scheme.specs.Crossings.{left_out}
use Rattle.flows.specs.Ordering.{left_into, least, Next, Taken, Made}
use Rattle.flows.specs.Ordering.Taken.{first, next}
use Rattle.flows.specs.Ordering.Made.{arrives, stops}
use Rattle.flows.specs.Push.{push}
use Rattle.flows.specs.PushLaws.{SameLimits}
use Rattle.flows.specs.RoundLaws.{RoundLeaves, RoundRaisesTheValueByTheGain, RoundGainsWhileThereIsAGap, RoundsCloseTheGap}
use Rattle.scheme.proofs.SumLaws.{below_mono, below_plus, below_one, below_const}
use Rattle.flows.proofs.Borders.{outside_of, left_by_points, lets_through}
use Rattle.scheme.proofs.Cuts.{relaid_gain}
use Rattle.flows.proofs.Ends.{no_gain_least_side}
use Rattle.flows.proofs.Keys.{left_at_most_key}
use Rattle.flows.proofs.Limits.{same_limits_self, limits_formed, limits_greatest, greatest_once, greatest_most}
use Rattle.flows.proofs.Orders.{taken_side, least_push}
use Rattle.flows.proofs.WholePush.{push_raises}

-- ---- no gain, no gap

pub gains_while_gap : RoundGainsWhileThereIsAGap
gains_while_gap s order keys gain formed lawful made =
    let none : value s +ℤ pos 0 ≡ value s = omega (arith, ints) in
    record {
      closed = λ e. rw none (no_gain_least_side s order keys formed lawful (rw e at made)).greatest;
      ended = λ none.
          ⊎_elim (λ (some : 0 < gain).
          let pushed = push_raises s order keys gain formed lawful made some in
          let most = greatest_most s (push s order gain) (value s +ℤ pos 0) pushed.limits pushed.lawful none in
          absurd (omega (arith, ints, pushed.raised, most)))
          (λ none. omega arith) (cases_lt 0 gain);
    }

-- ---- the narrowest place

-- the points before the one whose key is the gain
record Narrow (s : Scheme) (gain : ℕ) : Type 0 where
  points : List ℕ
  keys : List ℕ
  point : ℕ
  taken : Taken s points keys
  after : Next s (among points) point gain

narrow_taken : (s : Scheme) {ws ks : List ℕ} (k : ℕ) → Taken s ws ks → (least ks k ≡ k) ⊎ Narrow s (least ks k)
narrow_taken s k first = inl refl
narrow_taken s k (next {ws = ws} {ks = ks} {v = v} {k = j} taken n above inner) =
    rw (least_push ks j k)
    (⊎_elim
    (λ (e : least ks (min j k) ≡ min j k).
    ⊎_elim (λ (l : k < j). inl (omega arith))
    (λ (l : j ≤ k).
    let is : least ks (min j k) ≡ j = omega arith in
    inr (rw is (record { points = ws; keys = ks; point = v; taken = taken; after = n })))
    (cases_lt k j))
    inr (narrow_taken s (min j k) taken))

narrow : (s : Scheme) {order keys : List ℕ} (gain : ℕ) → 0 < gain → Made s order keys gain → Narrow s gain
narrow s gain some (arrives {ws = ws} {ks = ks} {k = k} taken n above) =
    ⊎_elim
    (λ (e : least ks k ≡ k). rw e (record { points = ws; keys = ks; point = s.outlet; taken = taken; after = n }))
    (λ found. found) (narrow_taken s k taken)
narrow s gain some (stops taken n) = absurd (omega arith)

-- what is left out there: at most the gain for each point but the inlet
module _ (s : Scheme) (gain : ℕ) (formed : WellFormed s) (narrow : Narrow s gain) where
  abbrev sofar : Points
  sofar = among narrow.points

  narrow_side : Side s sofar
  narrow_side = taken_side s formed.apart narrow.taken

  each_at_most : (w : ℕ) → w < s.points → outside_of sofar (left_into s sofar) w + cond (eqb s.inlet w) gain 0 ≤ gain
  each_at_most w l =
      ⊎_elim
      (λ (held : sofar w ≡ true). rw held (omega (arith, lets_through (eqb s.inlet w) true gain (λ _. refl))))
      (λ (out : sofar w ≡ false).
      let most = narrow.after.greatest w (l, out) in
      let left = left_at_most_key s sofar w in
      rw (out, ne_eqb s.inlet w (λ e. both_ways (sofar w) out (sym (ap sofar e) ∙ narrow_side.holds))) (omega arith))
      (cases_Bool (sofar w))

  narrow_left : left_out s sofar + gain ≤ s.points * gain
  narrow_left =
      let sums = below_plus (outside_of sofar (left_into s sofar)) (λ w. cond (eqb s.inlet w) gain 0) s.points in
      let most = below_mono _ (λ w. gain) s.points each_at_most in
      let by-points = left_by_points s sofar formed in
      let inlet = below_one s.inlet (λ w. gain) s.points formed.inlet_point in
      omega (arith, below_const gain s.points)

-- ---- a round that gains

abbrev pub gap_is : Scheme → ℕ → ℤ
gap_is s gap = value s +ℤ pos gap

-- the gap is at most what is left out of any side
pub gap_within_side :
    (s : Scheme) (x : Points) (gap : ℕ) → WellFormed s → Lawful s → Side s x → Gap s gap → gap ≤ left_out s x
gap_within_side s x gap formed lawful side great =
    let most = relaid_gain s x great.flows formed lawful side great.covers great.lawful in
    let reached = great.reached in
    omega (arith, ints, most, reached)

-- with m + 2 points: each point but the inlet leaves at most the gain, so the gap is at most m + 1 gains
part_of_gap : (m gain old new : ℕ) → old ≡ new + gain → old + gain ≤ (m + 2) * gain → (m + 1) * new ≤ m * old
part_of_gap m gain old new falls most =
    omega (arith, add-mul m 2 gain, add-mul m 1 new, ap (λ k. m * k) falls, mul-add m new gain)

round_leaves :
    (s t : Scheme) (gain : ℕ) → WellFormed s → SameLimits s t → Lawful t → value t ≡ value s +ℤ pos gain → RoundLeaves s t gain
round_leaves s t gain formed limits lawful raised =
    record { limits = limits; formed = limits_formed s t limits formed; lawful = lawful; raised = raised }

pub round_raises : RoundRaisesTheValueByTheGain
round_raises s t order keys gain formed lawful round =
    ⊎_elim
    (λ (some : 0 < gain).
    let is = round.after ∙ cond-false (eqb gain 0) s (push s order gain) (ne_eqb gain 0 (omega arith)) in
    let pushed = push_raises s order keys gain formed lawful round.made some in
    subst (λ u. RoundLeaves s u gain) (sym is)
    (round_leaves s (push s order gain) gain formed pushed.limits pushed.lawful pushed.raised))
    (λ (end : gain ≤ 0).
    let zero : gain ≡ 0 = omega arith in
    let is = round.after ∙ cond-true (eqb gain 0) s (push s order gain) (eq-eqb gain 0 zero) in
    subst (λ u. RoundLeaves s u gain) (sym is)
    (round_leaves s s gain formed (same_limits_self s) lawful (omega (arith, ints))))
    (cases_lt 0 gain)

pub rounds_close : RoundsCloseTheGap (λ n. n - 1) (λ n. n - 2)
rounds_close s t order keys gain old new formed lawful round some gap gap' =
    let leaves = round_raises s t order keys gain formed lawful round in
    let same = greatest_once s (gap_is s old) (gap_is t new) gap (limits_greatest s t leaves.limits (gap_is t new) gap') in
    let falls : old ≡ new + gain = omega (arith, ints, same, leaves.raised) in
    let place = narrow s gain some round.made in
    let left = narrow_left s gain formed place in
    let within = gap_within_side s (among place.points) old formed lawful (narrow_side s gain formed place) gap in
    let most : old + gain ≤ s.points * gain = omega arith in
    let m : ℕ = s.points - 2 in
    let two : s.points ≡ m + 2 = omega (arith, formed.some_points) in
    let one : s.points - 1 ≡ m + 1 = omega (arith, formed.some_points) in
    record {
      by_gain = falls;
      by_part = rw one (part_of_gap m gain old new falls (subst (λ n. old + gain ≤ n * gain) two most));
    }
