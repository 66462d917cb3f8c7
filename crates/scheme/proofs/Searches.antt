-- The first that fails a test, as a loop finds it.
use Rattle.std.proofs.Common.{◌≡◌, ℕ, zero, suc, ◌+◌, ◌-◌, ◌<◌, ◌≤◌, Bool, true, false, cond, List, [], ◌∷◌, length, get_or, drop, Some, None, Option, sym, refl, ap, ◌∙◌, subst, ⊎_elim, arith}
use Rattle.std.specs.List.{AllByRecursion, slice_get}
use Rattle.std.specs.Option.{MatchOption, option_map}
use Rattle.std.proofs.lemmas.Option.{same_Some, slice_get-get_or}
use Rattle.std.proofs.lemmas.List.{at_drop_more, at_drop_all}
use Rattle.std.proofs.lemmas.Bool.{cond-true, cond-false, cases_Bool, cases_eq}
use Rattle.scheme.specs.Questions.{first_fail, first_point}

pub some≢none : {X : Type 0} {x : X} → ◌≡◌ {A = Option X} (Some x) None → ⊥
some≢none e = let z : ◌≡◌ {A = ℕ} 0 1 = cc in omega arith

module _ {X : Type 0} (p : X → Bool) (xs : List X) (k : ℕ) (d : X) where
  pub fail_here : k < length xs → p (get_or xs k d) ≡ false → first_fail p k (drop k xs) ≡ Some k
  fail_here within fails = at_drop_more (first_fail p k) xs k d within ∙ cond-false (p (get_or xs k d)) _ _ fails

  pub fail_later : k < length xs → p (get_or xs k d) ≡ true → first_fail p (k + 1) (drop (k + 1) xs) ≡ first_fail p k (drop k xs)
  fail_later within passes = sym (at_drop_more (first_fail p k) xs k d within ∙ cond-true (p (get_or xs k d)) _ _ passes)

pub fail_nowhere : {X : Type 0} (p : X → Bool) (xs : List X) (k : ℕ) → length xs ≤ k → first_fail p k (drop k xs) ≡ None
fail_nowhere p xs k past = at_drop_all (first_fail p k) xs k past

-- at this place there is an element, and it fails the test
abbrev pub Fails : {X : Type 0} → (X → Bool) → List X → ℕ → Type 0
Fails p xs k = option_map p (slice_get xs k) ≡ Some false

-- what a search of the places from v on finds
module _ {X : Type 0} (p : X → Bool) (xs : List X) (d : X) where
  passed : (n v i : ℕ) → v + n ≡ i → i ≤ length xs → ((k : ℕ) → v ≤ k → k < i → p (get_or xs k d) ≡ true) → first_fail p i (drop i xs) ≡ first_fail p v (drop v xs)
  passed zero v i e within h = let same : i ≡ v = omega arith in ap (λ j. first_fail p j (drop j xs)) same
  passed (suc n) v i e within h =
      passed n (v + 1) i (omega arith) within (λ k low high. h k (omega arith) high) ∙ fail_later p xs v d (omega arith) (h v (omega arith) (omega arith))

  fails_at : (k : ℕ) → k < length xs → Fails p xs k → p (get_or xs k d) ≡ false
  fails_at k within e = same_Some _ _ (sym (ap (option_map p) (slice_get-get_or xs k d within)) ∙ e)

  passes_at : (k : ℕ) → k < length xs → (Fails p xs k → ⊥) → p (get_or xs k d) ≡ true
  passes_at k within ne = ⊎_elim (λ passes. passes) (λ fails. absurd (ne (ap (option_map p) (slice_get-get_or xs k d within) ∙ ap Some fails))) (cases_Bool (p (get_or xs k d)))

  pub first_found :
      (v n : ℕ) (r : Option ℕ) → n ≡ length xs → v ≤ n
      → MatchOption r ((k : ℕ) → v ≤ k → k < n → Fails p xs k → ⊥) (λ i. (v ≤ i) × (i < n) × Fails p xs i × ((k : ℕ) → v ≤ k → k < i → Fails p xs k → ⊥))
      → r ≡ first_fail p v (drop v xs)
  first_found v n None e room h =
      sym (fail_nowhere p xs n (omega arith)) ∙ passed (n - v) v n (omega arith) (omega arith) (λ k low high. passes_at k (omega arith) (h k low high))
  first_found v n (Some i) e room h =
      let within : i < length xs = omega (arith, h.1) in
      sym (fail_here p xs i d within (fails_at i within h.2)) ∙ passed (i - v) v i (omega (arith, h.0)) (omega arith) (λ k low high. passes_at k (omega arith) (h.3 k low high))

module _ (p : ℕ → Bool) (n v : ℕ) where
  one_more : v < n → first_point p v (n - v) ≡ cond (p v) (first_point p (v + 1) (n - (v + 1))) (Some v)
  one_more within = let e : n - v ≡ suc (n - (v + 1)) = omega arith in ap (first_point p v) e

  pub point_here : v < n → p v ≡ false → first_point p v (n - v) ≡ Some v
  point_here within fails = one_more within ∙ cond-false (p v) _ _ fails

  pub point_later : v < n → p v ≡ true → first_point p (v + 1) (n - (v + 1)) ≡ first_point p v (n - v)
  point_later within passes = sym (one_more within ∙ cond-true (p v) _ _ passes)

  pub point_nowhere : n ≤ v → first_point p v (n - v) ≡ None
  point_nowhere past = let e : n - v ≡ 0 = omega arith in ap (first_point p v) e

-- nothing fails exactly if all pass
pub all_pass : {X : Type 0} (p : X → Bool) (k : ℕ) (xs : List X) → first_fail p k xs ≡ None → AllByRecursion (λ x. p x ≡ true) xs
all_pass p k [] e = tt
all_pass p k (x ∷ xs) e = ⊎_elim (λ passes. (passes, all_pass p (k + 1) xs (sym (cond-true (p x) _ _ passes) ∙ e))) (λ fails. absurd (some≢none (sym (cond-false (p x) _ _ fails) ∙ e))) (cases_Bool (p x))

pub none_fails : {X : Type 0} (p : X → Bool) (k : ℕ) (xs : List X) → AllByRecursion (λ x. p x ≡ true) xs → first_fail p k xs ≡ None
none_fails p k [] h = refl
none_fails p k (x ∷ xs) h = cond-true (p x) _ _ h.0 ∙ none_fails p (k + 1) xs h.1

pub points_pass : (p : ℕ → Bool) (v n : ℕ) → first_point p v n ≡ None → (w : ℕ) → v ≤ w → w < v + n → p w ≡ true
points_pass p v zero e w low high = absurd (omega arith)
points_pass p v (suc n) e w low high =
    ⊎_elim
    (λ passes. ⊎_elim (λ here. subst (λ u. p u ≡ true) here passes) (λ apart. points_pass p (v + 1) n (sym (cond-true (p v) _ _ passes) ∙ e) w (omega arith) (omega arith)) (cases_eq v w))
    (λ fails. absurd (some≢none (sym (cond-false (p v) _ _ fails) ∙ e)))
    (cases_Bool (p v))

pub no_point_fails : (p : ℕ → Bool) (v n : ℕ) → ((w : ℕ) → v ≤ w → w < v + n → p w ≡ true) → first_point p v n ≡ None
no_point_fails p v zero h = refl
no_point_fails p v (suc n) h = cond-true (p v) _ _ (h v (omega arith) (omega arith)) ∙ no_point_fails p (v + 1) n (λ w low high. h w (omega arith) (omega arith))
