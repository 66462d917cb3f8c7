-- A settle on its way: the rounds that gained so far, and what they left in the tables.
use Rattle.std.proofs.Common.{◌≡◌, ℕ, ◌+◌, ◌*◌, ◌<◌, ◌≤◌, Bool, true, false, cond, eqb, List, [], ◌∷◌, ◌++◌, length, sym, refl, ap, ◌∙◌, subst, arith, length-append}
use Rattle.std.proofs.lemmas.List.FromFn.{length-map-range_with_len}
use Rattle.std.proofs.ByRecursion.{All-weaker, sum_by_le}
use Rattle.scheme.specs.Crossings.{enters, left_across, left_out}
use Rattle.scheme.specs.Flow.{Points, Lawful, leaves, left_on, left_back, among}
use Rattle.scheme.specs.Questions.{Joined, WellFormed}
use Rattle.scheme.specs.Scheme.{Scheme}
use Rattle.scheme.proofs.SumLaws.{all_both}
use Rattle.flows.specs.Round.{Round}
use Rattle.flows.specs.RoundsTold.{Gainful, gainful, RoundsTold}
use Rattle.flows.specs.RoundsTold.RoundsTold.{none, more}
use Rattle.flows.specs.RoundLaws.{Chain}
use Rattle.flows.proofs.Told.{counted}
use Rattle.flows.proofs.Chains.{chains_bounded, gained_within_side, inlet_side}
use Rattle.flows.proofs.Gaps.{round_raises}
use Rattle.flows.proofs.Limits.{limits_side}
use Rattle.solver.specs.Calls.{RoundWorks, SettleWorks, after_orders}
use Rattle.solver.specs.Work.{Work, written, places, supply, position}
use Rattle.solver.proofs.Ordered.{tables_are}
use Rattle.solver.proofs.Written.{written_over}

-- ---- one round more at the end of a chain

pub chain_then :
    {s t u : Scheme} {rounds : List Gainful} {order keys : List ℕ} {gain : ℕ} → RoundsTold s rounds t → Round t order keys gain u
    → 0 < gain → RoundsTold s (rounds ++ gainful t order gain u ∷ []) u
chain_then none round some = more round some none
chain_then (more first gains rest) round some = more first gains (chain_then rest round some)

orders_then : (rounds : List Gainful) (g : Gainful) (o : List ℕ) → after_orders (rounds ++ g ∷ []) o ≡ written g.order (after_orders rounds o)
orders_then [] g o = refl
orders_then (first ∷ rounds) g o = orders_then rounds g (written first.order o)

-- ---- no more rounds than fit a counter

across_within : (a b : Bool) (l f : ℕ) → l ≤ 1000000 → f ≤ 1000000 → cond a l 0 + cond b f 0 ≤ 2000000
across_within true true l f hl hf = omega arith
across_within true false l f hl hf = omega arith
across_within false true l f hl hf = omega arith
across_within false false l f hl hf = omega arith

left_bounded : (s : Scheme) (x : Points) → WellFormed s → Lawful s → left_out s x ≤ length s.reaches * 2000000
left_bounded s x formed lawful =
    sum_by_le (left_across x) 2000000 s.reaches
    (All-weaker _ (λ r. left_across x r ≤ 2000000)
    (λ r h. across_within (leaves x r) (enters x r) (left_on r) (left_back r) (omega (arith, h.0.bounded)) (omega (arith, h.0.bounded)))
    s.reaches (all_both (Joined s) (λ r. r.flow ≤ r.limit) s.reaches formed.joined lawful.within))

-- ---- the way of a settle

pub record Running (s : Scheme) (w : Work) (count : ℕ) (t : Scheme) (v : Work) : Type 0 where
  pub rounds : List Gainful
  pub chain : RoundsTold s rounds t
  pub counted : count ≡ length rounds
  pub orders : v.order ≡ after_orders rounds w.order
  -- places and needs are written over by every round
  pub placed : List ℕ
  pub few_placed : length placed ≤ s.points
  pub places_are : v.place ≡ written placed w.place
  pub needed : List ℕ
  pub few_needed : length needed ≤ s.points
  pub needs_are : v.need ≡ written needed w.need

pub at_start : (s : Scheme) (w : Work) → Running s w 0 s w
at_start s w =
    record {
      rounds = [];
      chain = none;
      counted = refl;
      orders = refl;
      placed = [];
      few_placed = omega arith;
      places_are = refl;
      needed = [];
      few_needed = omega arith;
      needs_are = refl;
    }

module _
    {s t : Scheme} {w v : Work} {count : ℕ} (formed : WellFormed s) (lawful : Lawful s) (run : Running s w count t v)
  where
    pub so_far : Chain s t (length run.rounds)
    so_far = chains_bounded s t (length run.rounds) formed lawful (counted run.chain)

    pub same_points : t.points ≡ s.points
    same_points = ap (λ (u : Scheme). u.points) so_far.limits.relaid

    -- so one round more can be counted
    pub countable : count ≤ 16384000000
    countable =
        let side = inlet_side s formed in
        omega (arith, run.counted, so_far.within_side (among (s.inlet ∷ [])) side, left_bounded s (among (s.inlet ∷ [])) formed lawful, formed.few_reaches)

    module _ {gain length' : ℕ} {u : Scheme} {x : Work} (works : RoundWorks t v gain length' u x) where
      order_after : x.order ≡ written works.order (after_orders run.rounds w.order)
      order_after = ap (λ (y : Work). y.order) works.tables ∙ ap (written works.order) run.orders

      long_places : length (places t works.order) ≡ t.points
      long_places = length-map-range_with_len (position 0 works.order) 0 t.points

      long_supply : length (supply t gain) ≡ t.points
      long_supply = length-map-range_with_len (λ v. cond (eqb v t.inlet) gain 0) 0 t.points

      place_after : x.place ≡ written (places t works.order) w.place
      place_after =
          ap (λ (y : Work). y.place) works.tables
          ∙ ap (written (places t works.order)) run.places_are
          ∙ written_over run.placed (places t works.order) w.place (omega (arith, run.few_placed, long_places, same_points))

      need_after : x.need ≡ written (supply t gain) w.need
      need_after =
          ap (λ (y : Work). y.need) works.tables
          ∙ ap (written (supply t gain)) run.needs_are
          ∙ written_over run.needed (supply t gain) w.need (omega (arith, run.few_needed, long_supply, same_points))

      pub round_more : 0 < gain → Running s w (count + 1) u x
      round_more some =
          let g = gainful t works.order gain u in
          record {
            rounds = run.rounds ++ g ∷ [];
            chain = chain_then run.chain works.round some;
            counted = omega (arith, run.counted, length-append run.rounds (g ∷ []));
            orders = order_after ∙ sym (orders_then run.rounds g w.order);
            placed = places t works.order;
            few_placed = omega (arith, long_places, same_points);
            places_are = place_after;
            needed = supply t gain;
            few_needed = omega (arith, long_supply, same_points);
            needs_are = need_after;
          }

      -- with a gain less is left out of the inlet
      pub less_left :
          0 < gain → left_out u (among (s.inlet ∷ [])) < left_out t (among (s.inlet ∷ []))
      less_left some =
          let inlet = among (s.inlet ∷ []) in
          let leaves = round_raises t u works.order works.keys gain so_far.formed so_far.lawful works.round in
          let side = limits_side s t so_far.limits inlet (inlet_side s formed) in
          omega (arith, gained_within_side t u inlet gain so_far.formed so_far.lawful side leaves.limits leaves.lawful leaves.raised)

    -- a round without a gain leaves the scheme, and ends the settle
    last_works : {length' : ℕ} {u : Scheme} {x : Work} → RoundWorks t v 0 length' u x → SettleWorks s w run.rounds u x
    last_works {u = u} {x = x} works =
        let same : t ≡ u = sym works.round.after in
        subst (λ (u : Scheme). SettleWorks s w run.rounds u x) same
        (record {
          order = works.order;
          run = record { chain = run.chain; keys = works.keys; ended = works.round.made };
          tables = tables_are _ _ _ _ _ _ (order_after works) (place_after works) (need_after works);
        })

    pub round_last :
        {gain length' : ℕ} {u : Scheme} {x : Work} → RoundWorks t v gain length' u x → gain ≡ 0
        → SettleWorks s w run.rounds u x
    round_last {length' = length'} {u = u} {x = x} works zero =
        last_works (subst (λ gain. RoundWorks t v gain length' u x) zero works)
