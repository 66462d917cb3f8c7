-- What the questions to a list of marks come to: it is a side, and its capacity is the value.
use Rattle.std.proofs.Common.{◌≡◌, ℕ, suc, ◌+◌, ◌-◌, ◌<◌, ◌≤◌, Bool, true, false, cond, not, eqb, leb, ◌≢◌, List, length, get_or, ℤ, pos, negsuc, is_ok, Decides, Result, sym, refl, ap, ◌∙◌, ⊎_elim, arith}
use lib.IntN.{sub_ℕ}
use Rattle.std.specs.List.{AllByRecursion}
use Rattle.std.proofs.ByRecursion.{All-get_or, All-from_get_or, Decides-by_and}
use Rattle.std.proofs.lemmas.Bool.{leb-true, le-leb, eqb-true, eq-eqb, ne_eqb, eqb-false, not-true, not_from_false, false≢true, cases_lt, lt-ltb, le-ltb}
use Rattle.std.proofs.lemmas.Bool.Decides.{nat_tests, Decides-and, Decides-eqb, Decides-like}
use Rattle.scheme.specs.declared.faults.CallFault.{CallFault}
use Rattle.scheme.specs.Refusals.{call_refusal, refusal_of}
use Rattle.scheme.specs.Scheme.{Scheme}
use Rattle.scheme.specs.Flow.{Lawful, value, capacity}
use Rattle.scheme.specs.Questions.{first_no, book_questions, WellFormed}
use Rattle.scheme.specs.Marks.{Pinch, ReviewDecides, marked, fitting, all_bits, sided, is_number, tight, MarksSide, side_questions, check_questions}
use Rattle.scheme.specs.SideLaws.{Meet}
use Rattle.scheme.proofs.Cuts.{meet_best}
use Rattle.scheme.proofs.Asked.{Means, accepted_means, append_means, book_means, or_means, test_means, yes_means, means_like}

-- b is the answer to P
pub answers_yes : {P : Type 0} (b : Bool) → Decides b P → P → true ≡ b
answers_yes b decides h = sym (decides.1 h)

pub answers_no : {P : Type 0} (b : Bool) → Decides b P → (P → ⊥) → false ≡ b
answers_no true decides no_way = absurd (no_way (decides.0 refl))
answers_no false decides no_way = refl

-- each mark is 0 or 1
bits_decide : (marks : List ℕ) → Decides (all_bits marks) (AllByRecursion (λ m. m ≤ 1) marks)
bits_decide marks = Decides-by_and (λ m. leb m 1) (λ m. m ≤ 1) all_bits (λ m. (leb-true m 1, le-leb m 1)) refl (λ _ _. refl) marks

module _ (s : Scheme) (marks : List ℕ) where
  pub sided_decides : Decides (sided s marks) (MarksSide s marks)
  sided_decides =
      let count = Decides-eqb (length marks) s.points in
      let inlet : Decides (marked marks s.inlet) (marked marks s.inlet ≡ true) = (λ e. e, λ e. e) in
      let outlet : Decides (not (marked marks s.outlet)) (marked marks s.outlet ≡ false) = (not-true (marked marks s.outlet), not_from_false (marked marks s.outlet)) in
      let parts = Decides-and _ _ (Decides-and _ _ (Decides-and _ _ count (bits_decide marks)) inlet) outlet in
      Decides-like (sided s marks)
      (λ h. record { count = h.0.0.0; bits = h.0.0.1; side = record { holds = h.0.1; lacks = h.1 } })
      (λ side. (((side.count, side.bits), side.side.holds), side.side.lacks))
      parts

  -- a mark of a side fits its point, and marks that all fit are a side
  abbrev pub Fits : ℕ → Type 0
  Fits v = fitting (eqb v s.inlet) (eqb v s.outlet) (get_or marks v 0) ≡ true

  pub side_fits : MarksSide s marks → (v : ℕ) → v < length marks → Fits v
  side_fits side v within =
      let bit : get_or marks v 0 ≤ 1 = All-get_or (λ m. m ≤ 1) marks v 0 within side.bits in
      let at-inlet : v ≡ s.inlet → get_or marks v 0 ≡ 1 = λ e. ap (λ w. get_or marks w 0) e ∙ eqb-true _ 1 side.side.holds in
      let at-outlet : v ≡ s.outlet → get_or marks v 0 ≢ 1 = λ e one. eqb-false _ 1 side.side.lacks (sym (ap (λ w. get_or marks w 0) e) ∙ one) in
      grind (arith, nat_tests)

  pub fits_side : length marks ≡ s.points → s.inlet < s.points → s.outlet < s.points → ((v : ℕ) → v < length marks → Fits v) → MarksSide s marks
  fits_side count inlet outlet fits =
      let at-inlet : get_or marks s.inlet 0 ≡ 1 = let h = fits s.inlet (omega arith) in grind (arith, nat_tests) in
      let at-outlet : get_or marks s.outlet 0 ≡ 0 = let h = fits s.outlet (omega arith) in grind (arith, nat_tests) in
      record {
        count = count;
        bits = All-from_get_or (λ m. m ≤ 1) marks 0 (λ v within. let h = fits v within in grind (arith, nat_tests));
        side = record { holds = eq-eqb _ 1 at-inlet; lacks = ne_eqb _ 1 (omega arith) };
      }

-- the value is the capacity exactly if the outflow is the inflow and the capacity together
pub number_read : (out into n : ℕ) → eqb out (into + n) ≡ is_number (sub_ℕ out into) n
number_read out into n =
    ⊎_elim
    (λ less. ne_eqb out (into + n) (omega arith) ∙ sym (ap (λ t. is_number (cond t (negsuc (into - suc out)) (pos (out - into))) n) (lt-ltb out into less)))
    (λ more. let e : eqb out (into + n) ≡ eqb (out - into) n = grind (arith, nat_tests) in e ∙ sym (ap (λ t. is_number (cond t (negsuc (into - suc out)) (pos (out - into))) n) (le-ltb out into more)))
    (cases_lt out into)

number_decides : (z : ℤ) (n : ℕ) → Decides (is_number z n) (z ≡ pos n)
number_decides (pos z) n = (λ e. ap pos (eqb-true z n e), λ e. eq-eqb z n (cc))
number_decides (negsuc z) n = (λ e. absurd (false≢true e), λ e. let x : ◌≡◌ {A = ℕ} 0 1 = cc in absurd (omega arith))

module _ (s : Scheme) (marks : List ℕ) where
  abbrev Tight : Type 0
  Tight = value s ≡ pos (capacity s (marked marks))

  check_means : Means (first_no (check_questions s marks)) ((WellFormed s × Lawful s) × (MarksSide s marks × Tight))
  check_means =
      append_means (book_questions s) (side_questions s marks) (book_means s)
      (
      means_like _ (λ h. (h.0, h.1.0)) (λ h. (h.0, (h.1, tt)))
      (or_means _ _ (test_means (sided s marks) _ (sided_decides s marks)) (or_means _ _ (test_means (tight s marks) _ (number_decides (value s) _)) yes_means))
      )

  pub check_law :
      (r : Result (Unit {0}) CallFault) → refusal_of call_refusal r ≡ first_no (check_questions s marks)
      → ReviewDecides s marks (is_ok r)
  check_law r told form side =
      Decides-like (is_ok r) (λ h. (h.0.1, h.1.1)) (λ h. ((form, h.0), (side, h.1))) (accepted_means call_refusal r _ told check_means)

  check_decides :
      (r : Result (Unit {0}) CallFault) → refusal_of call_refusal r ≡ first_no (check_questions s marks)
      → Decides (is_ok r) (Pinch s marks)
  check_decides r told =
      Decides-like (is_ok r)
      (λ h. record { formed = h.0.0; lawful = h.0.1; side = h.1.0; meets = h.1.1 })
      (λ p. ((p.formed, p.lawful), (p.side, p.meets)))
      (accepted_means call_refusal r _ told check_means)

  -- what the check promises of an answer, from the refusal that it tells
  pub record Checked (r : Result (Unit {0}) CallFault) : Type 0 where
    pub answer : refusal_of call_refusal r ≡ first_no (check_questions s marks)
    pub law : ReviewDecides s marks (is_ok r)
    pub accepts : Decides (is_ok r) (Pinch s marks)
    pub greatest : is_ok r ≡ true → Meet s (marked marks)

  pub checked :
      (r : Result (Unit {0}) CallFault) → refusal_of call_refusal r ≡ first_no (check_questions s marks) → Checked r
  checked r told =
      record {
        answer = told;
        law = check_law r told;
        accepts = check_decides r told;
        greatest = λ ok. let p = (check_decides r told).0 ok in meet_best s (marked marks) p.formed p.lawful p.side.side p.meets;
      }
