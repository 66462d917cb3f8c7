-- A flow through a junction is lawful exactly if it is lawful below, every gate carries what passes its point,
-- and no gate carries more than its limit.
use Rattle.std.proofs.Common.{◌≡◌, ℕ, ◌+◌, ◌-◌, ◌*◌, ◌<◌, ◌≤◌, ◌≢◌, List, [], ◌∷◌, ◌++◌, map, get_or, sym, refl, ap, ◌∙◌, subst, ⊎_elim, arith}
use lib.IntN.{sub_ℕ}
use Rattle.std.specs.List.{range_with_len, AllByRecursion}
use Rattle.std.proofs.lemmas.List.FromFn.{length-map-range_with_len, get_or-map-range_with_len}
use Rattle.std.proofs.ByRecursion.{All-append, All-map, All-get_or, All-from_get_or}
use Rattle.std.proofs.lemmas.Bool.{cases_lt, ne_eqb}
use Rattle.std.proofs.lemmas.Bool.Decides.{nat_tests}
use Rattle.scheme.specs.Scheme.{Scheme}
use Rattle.scheme.specs.Flow.{Lawful, value, inflow, outflow}
use Rattle.scheme.specs.Questions.{WellFormed}
use Rattle.layers.specs.declared.gates.Gate.{Gate}
use Rattle.layers.specs.Junctions.{split, between, through, shut, carried_reaches, gate_reaches}
use Rattle.layers.specs.JunctionLaws.{passes, WithinGates}
use Rattle.layers.proofs.Splits.{arrival_is, departure_is, inflow_before, outflow_before, inflow_behind, outflow_behind}

-- what holds of each element of a list's parts

all_left : {X : Type 0} (P : X → Type 0) (xs ys : List X) → AllByRecursion P (xs ++ ys) → AllByRecursion P xs
all_left P [] ys all = tt
all_left P (x ∷ xs) ys all = (all.0, all_left P xs ys all.1)

all_right : {X : Type 0} (P : X → Type 0) (xs ys : List X) → AllByRecursion P (xs ++ ys) → AllByRecursion P ys
all_right P [] ys all = all
all_right P (x ∷ xs) ys all = all_right P xs ys all.1

all_unmap : {X Y : Type 0} (P : Y → Type 0) (f : X → Y) (xs : List X) → AllByRecursion P (map f xs) → AllByRecursion (λ x. P (f x)) xs
all_unmap P f [] all = tt
all_unmap P f (x ∷ xs) all = (all.0, all_unmap P f xs all.1)

pub all_counted : {X : Type 0} (P : X → Type 0) (f : ℕ → X) (n : ℕ) → ((v : ℕ) → v < n → P (f v)) → AllByRecursion P (map f (range_with_len 0 n))
all_counted P f n each =
    All-from_get_or P (map f (range_with_len 0 n)) (f 0)
    (λ v within.
    let point : v < n = omega (arith, length-map-range_with_len f 0 n) in
    subst P (sym (get_or-map-range_with_len f 0 n v v (f 0) point (omega arith))) (each v point))

counted_all : {X : Type 0} (P : X → Type 0) (f : ℕ → X) (n : ℕ) → AllByRecursion P (map f (range_with_len 0 n)) → (v : ℕ) → v < n → P (f v)
counted_all P f n all v point =
    subst P (get_or-map-range_with_len f 0 n v v (f 0) point (omega arith))
    (All-get_or P (map f (range_with_len 0 n)) v (f 0) (omega (arith, length-map-range_with_len f 0 n)) all)

module _ (s : Scheme) (gates : List Gate) (formed : WellFormed s) where
  split_inlet : (split s gates).inlet ≡ s.inlet
  split_inlet = arrival_is s.points s.inlet formed.inlet_point

  split_outlet : (split s gates).outlet ≡ s.outlet + s.points
  split_outlet = departure_is s.points s.outlet formed.outlet_point

  -- what a gate carries under a lawful flow

  gate_fed : Lawful (split s gates) → (v : ℕ) → v < s.points → v ≢ s.inlet → inflow s v ≡ (get_or gates v shut).flow
  gate_fed lawful v point apart =
      sym (inflow_before s gates formed v point)
      ∙ lawful.balanced v (omega arith) (λ e. apart (e ∙ split_inlet)) (λ e. let far : v ≡ s.outlet + s.points = e ∙ split_outlet in omega arith)
      ∙ outflow_before s gates formed v point

  gate_feeds : Lawful (split s gates) → (v : ℕ) → v < s.points → v ≢ s.outlet → (get_or gates v shut).flow ≡ outflow s v
  gate_feeds lawful v point apart =
      sym (inflow_behind s gates formed v point)
      ∙ lawful.balanced (v + s.points) (omega arith)
      (λ e. let far : v + s.points ≡ s.inlet = e ∙ split_inlet in omega (arith, formed.inlet_point))
      (λ e. let far : v + s.points ≡ s.outlet + s.points = e ∙ split_outlet in apart (omega arith))
      ∙ outflow_behind s gates formed v point

  pub gate_carries : Lawful (split s gates) → (v : ℕ) → v < s.points → (get_or gates v shut).flow ≡ passes s v
  gate_carries lawful v point =
      grind (arith, nat_tests, gate_fed lawful v point, gate_feeds lawful v point, formed.apart)

  -- down

  pub lawful_down : Lawful (split s gates) → Lawful s
  lawful_down lawful =
      record {
        within =
            all_unmap (λ r. r.flow ≤ r.limit) (between s.points) s.reaches
            (all_left (λ r. r.flow ≤ r.limit) (carried_reaches s) (gate_reaches s.points gates) lawful.within);
        balanced = λ v point not-inlet not-outlet. gate_fed lawful v point not-inlet ∙ gate_feeds lawful v point not-outlet;
      }

  pub within_down : Lawful (split s gates) → WithinGates s gates
  within_down lawful v point =
      let carried : (get_or gates v shut).flow ≤ (get_or gates v shut).limit
      = counted_all (λ r. r.flow ≤ r.limit) (through s.points gates) s.points
      (all_right (λ r. r.flow ≤ r.limit) (carried_reaches s) (gate_reaches s.points gates) lawful.within)
      v point in
      omega (arith, gate_carries lawful v point)

  -- up, where every gate carries what passes its point

  module _ (carries : (v : ℕ) → v < s.points → (get_or gates v shut).flow ≡ passes s v) where
    passes_inner : (v : ℕ) → v ≢ s.outlet → passes s v ≡ outflow s v
    passes_inner v apart = rw (ne_eqb v s.outlet apart) refl

    passes_in : Lawful s → (v : ℕ) → v < s.points → v ≢ s.inlet → inflow s v ≡ passes s v
    passes_in lawful v point not-inlet = grind (arith, nat_tests, lawful.balanced v point not-inlet)

    balanced_up : Lawful s → (w : ℕ) → w < 2 * s.points → w ≢ (split s gates).inlet → w ≢ (split s gates).outlet → inflow (split s gates) w ≡ outflow (split s gates) w
    balanced_up lawful w above not-inlet not-outlet =
        ⊎_elim
        (λ (point : w < s.points).
        inflow_before s gates formed w point
        ∙ passes_in lawful w point (λ (e : w ≡ s.inlet). not-inlet (e ∙ sym split_inlet))
        ∙ sym (carries w point)
        ∙ sym (outflow_before s gates formed w point))
        (λ (behind : s.points ≤ w).
        let v = w - s.points in
        let point : w - s.points < s.points = omega arith in
        let back : w - s.points + s.points ≡ w = omega arith in
        subst (λ u. inflow (split s gates) u ≡ outflow (split s gates) u) back
        (inflow_behind s gates formed v point
        ∙ carries v point
        ∙ passes_inner v (λ (e : v ≡ s.outlet). not-outlet (sym back ∙ ap (λ u. u + s.points) e ∙ sym split_outlet))
        ∙ sym (outflow_behind s gates formed v point)))
        (cases_lt w s.points)

    pub lawful_up : Lawful s → WithinGates s gates → Lawful (split s gates)
    lawful_up lawful within =
        record {
          within =
              All-append (λ r. r.flow ≤ r.limit) (carried_reaches s) (gate_reaches s.points gates)
              (All-map (λ r. r.flow ≤ r.limit) (between s.points) s.reaches lawful.within)
              (all_counted (λ r. r.flow ≤ r.limit) (through s.points gates) s.points (λ v point. omega (arith, carries v point, within v point)));
          balanced = balanced_up lawful;
        }

    pub value_up : value (split s gates) ≡ value s
    value_up =
        ap (λ i. sub_ℕ (outflow (split s gates) i) (inflow (split s gates) i)) split_inlet
        ∙ ap (λ k. sub_ℕ k (inflow (split s gates) s.inlet))
        (outflow_before s gates formed s.inlet formed.inlet_point
        ∙ carries s.inlet formed.inlet_point
        ∙ passes_inner s.inlet formed.apart)
        ∙ ap (sub_ℕ (outflow s s.inlet)) (inflow_before s gates formed s.inlet formed.inlet_point)
