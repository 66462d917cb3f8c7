-- What the questions to a register come to: it is well formed, and its flow is lawful.
use Rattle.std.proofs.Common.{◌≡◌, ℕ, ◌<◌, ◌≤◌, Bool, true, false, cond, ◌||◌, eqb, ◌≢◌, List, [], ◌∷◌, ◌++◌, length, is_ok, Some, None, Ok, Err, Decides, Option, Result, sym, refl, ap, ◌∙◌, subst, ⊎_elim, arith}
use Rattle.std.specs.Option.{option_map}
use Rattle.std.specs.List.{AllByRecursion}
use Rattle.std.proofs.ByRecursion.{All-weaker}
use Rattle.std.proofs.lemmas.Bool.{false≢true, leb-true, le-leb, cases_eq, eq-eqb, or_left, or_right}
use Rattle.std.proofs.lemmas.Bool.Decides.{nat_tests as tells}
use Rattle.scheme.specs.declared.faults.BookFault.{BookFault}
use Rattle.scheme.specs.declared.faults.Refusal.{Refusal}
use Rattle.scheme.specs.declared.rows.Reach.{Reach}
use Rattle.scheme.specs.Bounds.{most_points, most_reaches}
use Rattle.scheme.specs.Scheme.{Scheme}
use Rattle.scheme.specs.Flow.{Lawful, inflow, outflow}
use Rattle.scheme.specs.Refusals.{book_refusal, refusal_of}
use Rattle.scheme.specs.Questions.{Question, or_else, first_no, shaped, ask_shape, joins, ask_ends, carries, ask_flows, steady, ask_balance, form_questions, book_questions, Joined, WellFormed}
use Rattle.scheme.proofs.Searches.{some≢none, all_pass, none_fails, points_pass, no_point_fails}

-- where the first question is answered no, and where it is answered yes
pub refuses : {x : Refusal} (q later : Question) → q ≡ Some x → Some x ≡ or_else q later
refuses q later e = sym (ap (λ q. or_else q later) e)

pub passes : {x : Question} (q later : Question) → q ≡ None → x ≡ later → x ≡ or_else q later
passes q later e rest = rest ∙ sym (ap (λ q. or_else q later) e)

first_no_append : (qs later : List Question) → first_no (qs ++ later) ≡ or_else (first_no qs) (first_no later)
first_no_append [] later = refl
first_no_append (None ∷ qs) later = first_no_append qs later
first_no_append (Some y ∷ qs) later = refl

-- the same, of a list of questions
pub refuses_all : {x : Refusal} (qs later : List Question) → first_no qs ≡ Some x → Some x ≡ first_no (qs ++ later)
refuses_all qs later e = refuses (first_no qs) (first_no later) e ∙ sym (first_no_append qs later)

pub passes_all : {x : Question} (qs later : List Question) → first_no qs ≡ None → x ≡ first_no later → x ≡ first_no (qs ++ later)
passes_all qs later e rest = passes (first_no qs) (first_no later) e rest ∙ sym (first_no_append qs later)

-- All the questions are answered yes exactly if P.
abbrev pub Means : Question → Type 0 → Type 0
Means q P = (q ≡ None → P) × (P → q ≡ None)

pub accepted_means : {X F P : Type 0} (tells : F → Refusal) (r : Result X F) (q : Question) → refusal_of tells r ≡ q → Means q P → Decides (is_ok r) P
accepted_means tells (Ok x) q e means = (λ _. means.0 (sym e), λ _. refl)
accepted_means tells (Err fault) q e means = (λ h. absurd (false≢true h), λ h. absurd (some≢none (e ∙ means.1 h)))

pub or_means : {P Q : Type 0} (q later : Question) → Means q P → Means later Q → Means (or_else q later) (P × Q)
or_means None later here there = (λ e. (here.0 refl, there.0 e), λ h. there.1 h.1)
or_means (Some refusal) later here there = (λ e. absurd (some≢none e), λ h. absurd (some≢none (here.1 h.0)))

pub append_means : {P Q : Type 0} (qs later : List Question) → Means (first_no qs) P → Means (first_no later) Q → Means (first_no (qs ++ later)) (P × Q)
append_means {P} {Q} qs later here there = subst (λ q. Means q (P × Q)) (sym (first_no_append qs later)) (or_means (first_no qs) (first_no later) here there)

pub test_means : {P : Type 0} (t : Bool) (refusal : Refusal) → Decides t P → Means (cond t None (Some refusal)) P
test_means true refusal decides = (λ _. decides.0 refl, λ _. refl)
test_means false refusal decides = (λ e. absurd (some≢none e), λ h. absurd (false≢true (decides.1 h)))

place_means : {P : Type 0} (tell : ℕ → Refusal) (place : Option ℕ) → (place ≡ None → P) → (P → place ≡ None) → Means (option_map tell place) P
place_means tell None holds back = (λ _. holds refl, λ _. refl)
place_means tell (Some k) holds back = (λ e. absurd (some≢none e), λ h. absurd (some≢none (back h)))

pub yes_means : Means None (Unit {0})
yes_means = (λ _. tt, λ _. refl)

-- the two shapes of P that a list of questions gives and that we want
pub means_like : {P Q : Type 0} (q : Question) → (P → Q) → (Q → P) → Means q P → Means q Q
means_like q there back means = (λ e. there (means.0 e), λ h. means.1 (back h))

module _ (s : Scheme) where
  pub record Shaped : Type 0 where
    pub some_points : 2 ≤ s.points
    pub few_points : s.points ≤ most_points
    pub few_reaches : length s.reaches ≤ most_reaches
    pub inlet_point : s.inlet < s.points
    pub outlet_point : s.outlet < s.points
    pub apart : s.inlet ≢ s.outlet

  shaped_decides : Decides (shaped s) Shaped
  shaped_decides = (
    λ e. record {
      some_points = grind (arith, tells);
      few_points = grind (arith, tells);
      few_reaches = grind (arith, tells);
      inlet_point = grind (arith, tells);
      outlet_point = grind (arith, tells);
      apart = grind (arith, tells);
    },
    λ h. grind (arith, tells),
  )

  joins_decides : (r : Reach) → Decides (joins s r) (Joined s r)
  joins_decides r = (
    λ e. record { tail_point = grind (arith, tells); head_point = grind (arith, tells); apart = grind (arith, tells); bounded = grind (arith, tells) },
    λ h. grind (arith, tells),
  )

  ends_mean : Means (ask_ends s) (AllByRecursion (Joined s) s.reaches)
  ends_mean =
      place_means _ _
      (λ e. All-weaker (λ r. joins s r ≡ true) (Joined s) (λ r. (joins_decides r).0) s.reaches (all_pass (joins s) 0 s.reaches e))
      (λ h. none_fails (joins s) 0 s.reaches (All-weaker (Joined s) (λ r. joins s r ≡ true) (λ r. (joins_decides r).1) s.reaches h))

  abbrev FormParts : Type 0
  FormParts = Shaped × AllByRecursion (Joined s) s.reaches

  well_formed : FormParts → WellFormed s
  well_formed h =
      record {
        some_points = h.0.some_points;
        few_points = h.0.few_points;
        few_reaches = h.0.few_reaches;
        inlet_point = h.0.inlet_point;
        outlet_point = h.0.outlet_point;
        apart = h.0.apart;
        joined = h.1;
      }

  form_parts : WellFormed s → FormParts
  form_parts w =
      let shape : Shaped =
      record {
        some_points = w.some_points;
        few_points = w.few_points;
        few_reaches = w.few_reaches;
        inlet_point = w.inlet_point;
        outlet_point = w.outlet_point;
        apart = w.apart;
      } in
      (shape, w.joined)

  shape_means : Means (ask_shape s) Shaped
  shape_means = test_means (shaped s) _ shaped_decides

  pub form_means : Means (first_no (form_questions s)) (WellFormed s)
  form_means =
      means_like _ (λ h. well_formed (h.0, h.1.0)) (λ w. let h = form_parts w in (h.0, (h.1, tt)))
      (or_means _ _ shape_means (or_means _ _ ends_mean yes_means))

  flows_mean : Means (ask_flows s) (AllByRecursion (λ r. r.flow ≤ r.limit) s.reaches)
  flows_mean =
      place_means _ _
      (λ e. All-weaker (λ r. carries r ≡ true) (λ r. r.flow ≤ r.limit) (λ r. leb-true r.flow r.limit) s.reaches (all_pass carries 0 s.reaches e))
      (λ h. none_fails carries 0 s.reaches (All-weaker (λ r. r.flow ≤ r.limit) (λ r. carries r ≡ true) (λ r. le-leb r.flow r.limit) s.reaches h))

  abbrev Balanced : Type 0
  Balanced = (v : ℕ) → v < s.points → v ≢ s.inlet → v ≢ s.outlet → inflow s v ≡ outflow s v

  steady_from : (v : ℕ) → (v ≢ s.inlet → v ≢ s.outlet → inflow s v ≡ outflow s v) → steady s v ≡ true
  steady_from v h =
      ⊎_elim (λ inlet. or_left (eqb v s.inlet) (eqb v s.outlet || eqb (inflow s v) (outflow s v)) (eq-eqb v s.inlet inlet))
      (λ not-inlet. or_right (eqb v s.inlet) (eqb v s.outlet || eqb (inflow s v) (outflow s v)) (inner not-inlet))
      (cases_eq v s.inlet)
    where
      inner : v ≢ s.inlet → (eqb v s.outlet || eqb (inflow s v) (outflow s v)) ≡ true
      inner not-inlet =
          ⊎_elim (λ outlet. or_left (eqb v s.outlet) (eqb (inflow s v) (outflow s v)) (eq-eqb v s.outlet outlet))
          (λ not-outlet. or_right (eqb v s.outlet) (eqb (inflow s v) (outflow s v)) (eq-eqb (inflow s v) (outflow s v) (h not-inlet not-outlet)))
          (cases_eq v s.outlet)

  balance_means : Means (ask_balance s) Balanced
  balance_means =
      place_means _ _
      (λ e v within inlet outlet. let p = points_pass (steady s) 0 s.points e v (omega arith) (omega arith) in grind (arith, tells))
      (λ h. no_point_fails (steady s) 0 s.points (λ v low high. steady_from v (h v (omega arith))))

  pub book_means : Means (first_no (book_questions s)) (WellFormed s × Lawful s)
  book_means =
      means_like _
      (λ h. (well_formed (h.0, h.1.0), record { within = h.1.1.0; balanced = h.1.1.1.0 }))
      (λ h. let w = form_parts h.0 in (w.0, (w.1, (h.1.within, (h.1.balanced, tt)))))
      (or_means _ _ shape_means (or_means _ _ ends_mean (or_means _ _ flows_mean (or_means _ _ balance_means yes_means))))

  -- what an answer says of the register, from the refusal that it tells
  pub form_law :
      (r : Result (Unit {0}) BookFault) → refusal_of book_refusal r ≡ first_no (form_questions s) → Decides (is_ok r) (WellFormed s)
  form_law r told = accepted_means book_refusal r _ told form_means

  pub book_law :
      (r : Result (Unit {0}) BookFault) → refusal_of book_refusal r ≡ first_no (book_questions s)
      → Decides (is_ok r) (WellFormed s × Lawful s)
  book_law r told = accepted_means book_refusal r _ told book_means
