-- What enters and what leaves each half of a point that a junction has taken apart.
-- At v, before the gate: what enters v below, and out of it the gate's flow. At v + n, behind the gate: the gate's flow,
-- and out of it what leaves v below.
use Rattle.std.proofs.Common.{◌≡◌, ℕ, zero, suc, ◌+◌, ◌<◌, Bool, false, cond, eqb, List, map, get_or, sum_by, sym, refl, ap, ◌∙◌, arith}
use Rattle.std.specs.List.{range_with_len}
use Rattle.std.proofs.lemmas.List.FromFn.{sum_by-map-range_with_len_more}
use Rattle.std.proofs.ByRecursion.{All-weaker}
use Rattle.std.proofs.lemmas.List.Sums.{sum_by-append}
use Rattle.std.proofs.lemmas.Bool.{ne_eqb, lt-ltb}
use Rattle.std.proofs.lemmas.Bool.Decides.{nat_tests}
use Rattle.scheme.specs.declared.rows.Reach.{Reach}
use Rattle.scheme.specs.Scheme.{Scheme}
use Rattle.scheme.specs.Flow.{inflow, outflow}
use Rattle.scheme.specs.Questions.{WellFormed, Joined}
use Rattle.layers.specs.declared.gates.Gate.{Gate}
use Rattle.layers.specs.Junctions.{split, gated, between, through, arrival, departure, shut, carried_reaches, gate_reaches}
use Rattle.scheme.proofs.SumLaws.{sum_below, sum_by_none, sum_by_same, below_same, below_none, below_one}
use Rattle.layers.proofs.Totals.{sum_by_map}

-- tests of numbers

eqb_alike : (a b c d : ℕ) → (a ≡ b → c ≡ d) → (c ≡ d → a ≡ b) → eqb a b ≡ eqb c d
eqb_alike a b c d there back = grind (arith, nat_tests)

pub arrival_is : (n v : ℕ) → v < n → arrival n v ≡ v
arrival_is n v point = rw (lt-ltb v n point) refl

pub departure_is : (n v : ℕ) → v < n → departure n v ≡ v + n
departure_is n v point = rw (lt-ltb v n point) refl

-- sums over the two parts of a junction's list

sum_by_counted : {X : Type 0} (f : X → ℕ) (t : ℕ → X) (n : ℕ) → sum_by f (map t (range_with_len 0 n)) ≡ sum_below n (λ v. f (t v))
sum_by_counted f t zero = refl
sum_by_counted f t (suc n) =
    ap (λ k. sum_by f (map t (range_with_len 0 k))) {x = suc n} {y = n + 1} (omega arith)
    ∙ sum_by-map-range_with_len_more f t 0 n n (omega arith)
    ∙ ap (λ k. k + f (t n)) (sum_by_counted f t n)

-- a sum of two parts, of which one is nothing
left_only : {a b c x : ℕ} → a ≡ b + c → b ≡ x → c ≡ 0 → a ≡ x
left_only all low own = omega arith

right_only : {a b c x : ℕ} → a ≡ b + c → b ≡ 0 → c ≡ x → a ≡ x
right_only all low own = omega arith

-- the flows of a junction's reaches that pass a test: of those below, and of the gates

abbrev carried_flow : Scheme → (Reach → Bool) → ℕ
carried_flow s test = sum_by (λ r. cond (test (between s.points r)) r.flow 0) s.reaches

abbrev gate_flow : Scheme → List Gate → (Reach → Bool) → ℕ
gate_flow s gates test = sum_below s.points (λ v. cond (test (through s.points gates v)) (get_or gates v shut).flow 0)

module _ (s : Scheme) (gates : List Gate) (formed : WellFormed s) where
  by_parts : (test : Reach → Bool) → sum_by (λ r. cond (test r) r.flow 0) (gated s gates) ≡ carried_flow s test + gate_flow s gates test
  by_parts test =
      let f : Reach → ℕ = λ r. cond (test r) r.flow 0 in
      sum_by-append f (carried_reaches s) (gate_reaches s.points gates)
      ∙ ap (λ k. k + sum_by f (gate_reaches s.points gates)) (sum_by_map f (between s.points) s.reaches)
      ∙ ap (λ k. carried_flow s test + k) (sum_by_counted f (through s.points gates) s.points)

  below_as : (test alike : Reach → Bool) → ((r : Reach) → Joined s r → test (between s.points r) ≡ alike r) → carried_flow s test ≡ sum_by (λ r. cond (alike r) r.flow 0) s.reaches
  below_as test alike is =
      sum_by_same (λ r. cond (test (between s.points r)) r.flow 0) (λ r. cond (alike r) r.flow 0) s.reaches
      (All-weaker (Joined s) (λ r. cond (test (between s.points r)) r.flow 0 ≡ cond (alike r) r.flow 0)
      (λ r j. ap (λ b. cond b r.flow 0) (is r j)) s.reaches formed.joined)

  none_below : (test : Reach → Bool) → ((r : Reach) → Joined s r → test (between s.points r) ≡ false) → carried_flow s test ≡ 0
  none_below test fails = below_as test (λ r. false) fails ∙ sum_by_none s.reaches

  gates_as : (test : Reach → Bool) (alike : ℕ → Bool) → ((v : ℕ) → v < s.points → test (through s.points gates v) ≡ alike v) → gate_flow s gates test ≡ sum_below s.points (λ v. cond (alike v) (get_or gates v shut).flow 0)
  gates_as test alike is = below_same _ _ s.points (λ v point. ap (λ b. cond b (get_or gates v shut).flow 0) (is v point))

  no_gate : (test : Reach → Bool) → ((v : ℕ) → v < s.points → test (through s.points gates v) ≡ false) → gate_flow s gates test ≡ 0
  no_gate test fails = gates_as test (λ v. false) fails ∙ below_none s.points

  one_gate : (test : Reach → Bool) (v : ℕ) → v < s.points → ((u : ℕ) → u < s.points → test (through s.points gates u) ≡ eqb v u) → gate_flow s gates test ≡ (get_or gates v shut).flow
  one_gate test v point is = gates_as test (eqb v) is ∙ below_one v (λ u. (get_or gates u shut).flow) s.points point

  module _ (v : ℕ) (point : v < s.points) where
    pub inflow_before : inflow (split s gates) v ≡ inflow s v
    inflow_before =
        left_only (by_parts (λ r. eqb r.head v))
        (below_as (λ r. eqb r.head v) (λ r. eqb r.head v) (λ r j. ap (λ w. eqb w v) (arrival_is s.points r.head j.head_point)))
        (no_gate (λ r. eqb r.head v) (λ u below. ne_eqb (u + s.points) v (omega arith)))

    pub outflow_before : outflow (split s gates) v ≡ (get_or gates v shut).flow
    outflow_before =
        right_only (by_parts (λ r. eqb r.tail v))
        (none_below (λ r. eqb r.tail v)
        (λ r j. ap (λ w. eqb w v) (departure_is s.points r.tail j.tail_point) ∙ ne_eqb (r.tail + s.points) v (omega arith)))
        (one_gate (λ r. eqb r.tail v) v point (λ u below. eqb_alike u v v u sym sym))

    pub inflow_behind : inflow (split s gates) (v + s.points) ≡ (get_or gates v shut).flow
    inflow_behind =
        right_only (by_parts (λ r. eqb r.head (v + s.points)))
        (none_below (λ r. eqb r.head (v + s.points))
        (λ r j.
        let low = j.head_point in
        ap (λ w. eqb w (v + s.points)) (arrival_is s.points r.head low) ∙ ne_eqb r.head (v + s.points) (omega arith)))
        (one_gate (λ r. eqb r.head (v + s.points)) v point
        (λ u below. eqb_alike (u + s.points) (v + s.points) v u (λ e. omega arith) (λ e. omega arith)))

    pub outflow_behind : outflow (split s gates) (v + s.points) ≡ outflow s v
    outflow_behind =
        left_only (by_parts (λ r. eqb r.tail (v + s.points)))
        (below_as (λ r. eqb r.tail (v + s.points)) (λ r. eqb r.tail v)
        (λ r j.
        ap (λ w. eqb w (v + s.points)) (departure_is s.points r.tail j.tail_point)
        ∙ eqb_alike (r.tail + s.points) (v + s.points) r.tail v (λ e. omega arith) (λ e. omega arith)))
        (no_gate (λ r. eqb r.tail (v + s.points)) (λ u below. ne_eqb u (v + s.points) (omega arith)))
