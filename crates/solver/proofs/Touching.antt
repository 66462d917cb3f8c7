-- What the next reach that touches a point says of those before it.
use Rattle.std.proofs.Common.{◌≡◌, ℕ, zero, suc, ◌+◌, ◌-◌, ◌<◌, ◌≤◌, true, false, not, List, length, get_or, Some, None, Option, MatchOption, sym, ap, ◌∙◌, ⊎_elim, arith}
use Rattle.std.specs.List.{slice_get}
use Rattle.std.specs.Option.{option_map}
use Rattle.std.proofs.lemmas.Bool.{cases_Bool, cases_eq, cases_lt}
use Rattle.std.proofs.lemmas.Option.{same_Some, slice_get-get_or}
use Rattle.scheme.specs.declared.rows.Reach.{Reach}
use Rattle.scheme.specs.Scheme.{no_reach}
use Rattle.scheme.proofs.Searches.{fail_here, fail_later, fail_nowhere, some≢none}
use Rattle.solver.specs.Joins.{touches, next_that_touches}

-- none of the reaches from k up to j touches the point
abbrev pub Untouched : List Reach → ℕ → ℕ → ℕ → Type 0
Untouched rs v k j = (i : ℕ) → k ≤ i → i < j → touches v (get_or rs i no_reach) ≡ false

-- at this place there is a reach, and it touches the point
abbrev pub Touches : List Reach → ℕ → ℕ → Type 0
Touches rs v k = option_map (touches v) (slice_get rs k) ≡ Some true

-- the next one is in the list, touches the point, and none before it does
pub record NextIs (rs : List Reach) (v k j : ℕ) : Type 0 where
  pub from : k ≤ j
  pub within : j < length rs
  pub here : touches v (get_or rs j no_reach) ≡ true
  pub before : Untouched rs v k j

module _ (rs : List Reach) (v : ℕ) where
  step_on : (k : ℕ) → k < length rs → touches v (get_or rs k no_reach) ≡ false → next_that_touches rs v k ≡ next_that_touches rs v (k + 1)
  step_on k within miss = sym (fail_later (λ r. not (touches v r)) rs k no_reach within (ap not miss))

  stop_here : (k : ℕ) → k < length rs → touches v (get_or rs k no_reach) ≡ true → next_that_touches rs v k ≡ Some k
  stop_here k within touch = fail_here (λ r. not (touches v r)) rs k no_reach within (ap not touch)

  longer : (k j : ℕ) → touches v (get_or rs k no_reach) ≡ false → Untouched rs v (k + 1) j → Untouched rs v k j
  longer k j miss more i low high =
      ⊎_elim (λ (e : k ≡ i). ap (λ n. touches v (get_or rs n no_reach)) (sym e) ∙ miss) (λ ne. more i (omega arith) high) (cases_eq k i)

  some_same : (j k : ℕ) → ◌≡◌ {A = Option ℕ} (Some j) (Some k) → j ≡ k
  some_same j k e = cc

  found : (left k j : ℕ) → length rs ≡ k + left → next_that_touches rs v k ≡ Some j → NextIs rs v k j
  found zero k j long e =
      absurd (some≢none (sym e ∙ fail_nowhere (λ r. not (touches v r)) rs k (omega arith)))
  found (suc left) k j long e =
      ⊎_elim
      (λ touch.
      let at : k ≡ j = some_same k j (sym (stop_here k (omega arith) touch) ∙ e) in
      record { from = omega arith; within = omega arith; here = ap (λ n. touches v (get_or rs n no_reach)) (sym at) ∙ touch; before = λ i low high. absurd (omega arith) })
      (λ miss.
      let later = found left (k + 1) j (omega arith) (sym (step_on k (omega arith) miss) ∙ e) in
      record { from = omega (arith, later.from); within = later.within; here = later.here; before = longer k j miss later.before })
      (cases_Bool (touches v (get_or rs k no_reach)))

  nowhere : (left k : ℕ) → length rs ≡ k + left → next_that_touches rs v k ≡ None → Untouched rs v k (length rs)
  nowhere zero k long e = λ i low high. absurd (omega arith)
  nowhere (suc left) k long e =
      ⊎_elim
      (λ touch. absurd (some≢none (sym (stop_here k (omega arith) touch) ∙ e)))
      (λ miss. longer k (length rs) miss (nowhere left (k + 1) (omega arith) (sym (step_on k (omega arith) miss) ∙ e)))
      (cases_Bool (touches v (get_or rs k no_reach)))

  pub next_is : (k j : ℕ) → next_that_touches rs v k ≡ Some j → NextIs rs v k j
  next_is k j e =
      ⊎_elim
      (λ (within : k < length rs). found (length rs - k) k j (omega arith) e)
      (λ (past : length rs ≤ k). absurd (some≢none (sym e ∙ fail_nowhere (λ r. not (touches v r)) rs k past)))
      (cases_lt k (length rs))

  pub next_none : (k : ℕ) → next_that_touches rs v k ≡ None → Untouched rs v k (length rs)
  next_none k e =
      ⊎_elim
      (λ (within : k < length rs). nowhere (length rs - k) k (omega arith) e)
      (λ (past : length rs ≤ k). λ i low high. absurd (omega arith))
      (cases_lt k (length rs))

  arrives :
      (left k j : ℕ) → j ≡ k + left → j < length rs → touches v (get_or rs j no_reach) ≡ true → Untouched rs v k j
      → next_that_touches rs v k ≡ Some j
  arrives zero k j far within here before =
      let same : j ≡ k = omega arith in
      stop_here k (omega arith) (ap (λ n. touches v (get_or rs n no_reach)) (sym same) ∙ here) ∙ ap Some (sym same)
  arrives (suc left) k j far within here before =
      step_on k (omega arith) (before k (omega arith) (omega arith))
      ∙ arrives left (k + 1) j (omega arith) within here (λ i low high. before i (omega arith) high)

  leaves : (left k : ℕ) → length rs ≤ k + left → Untouched rs v k (length rs) → next_that_touches rs v k ≡ None
  leaves zero k past before = fail_nowhere (λ r. not (touches v r)) rs k (omega arith)
  leaves (suc left) k past before =
      ⊎_elim
      (λ (within : k < length rs).
      step_on k within (before k (omega arith) within)
      ∙ leaves left (k + 1) (omega arith) (λ i low high. before i (omega arith) high))
      (λ (past : length rs ≤ k). fail_nowhere (λ r. not (touches v r)) rs k past)
      (cases_lt k (length rs))

  touches_at : (i : ℕ) → i < length rs → Touches rs v i → touches v (get_or rs i no_reach) ≡ true
  touches_at i within e = same_Some _ _ (sym (ap (option_map (touches v)) (slice_get-get_or rs i no_reach within)) ∙ e)

  misses_at : (i : ℕ) → i < length rs → (Touches rs v i → ⊥) → touches v (get_or rs i no_reach) ≡ false
  misses_at i within ne =
      ⊎_elim
      (λ touch. absurd (ne (ap (option_map (touches v)) (slice_get-get_or rs i no_reach within) ∙ ap Some touch)))
      (λ miss. miss)
      (cases_Bool (touches v (get_or rs i no_reach)))

  -- as a search over the numbers from k on tells it
  pub as_searched :
      (k n : ℕ) (r : Option ℕ) → n ≡ length rs
      → MatchOption r ((i : ℕ) → k ≤ i → i < n → Touches rs v i → ⊥)
      (λ j. (k ≤ j) × (j < n) × Touches rs v j × ((i : ℕ) → k ≤ i → i < j → Touches rs v i → ⊥))
      → r ≡ next_that_touches rs v k
  as_searched k n None all told =
      sym (leaves (length rs) k (omega arith) (λ i low high. misses_at i high (told i low (omega arith))))
  as_searched k n (Some j) all told =
      let within : j < length rs = omega (arith, told.1) in
      sym (arrives (j - k) k j (omega (arith, told.0)) within (touches_at j within told.2)
      (λ i low high. misses_at i (omega arith) (told.3 i low high)))
