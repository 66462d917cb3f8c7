-- A list of reaches of which the first are changed, as a loop makes it.
use Rattle.std.proofs.Common.{◌≡◌, ℕ, zero, suc, ◌+◌, ◌<◌, ◌≤◌, List, [], ◌∷◌, map, length, set, Some, None, refl, ap, ◌∙◌, add-one, arith}
use Rattle.std.specs.List.{slice_get}
use Rattle.scheme.specs.declared.rows.Reach.{Reach}
use Rattle.scheme.specs.Scheme.{changed}

module _ (f : Reach → Reach) where
  -- the first k changed
  abbrev pub changed_to : ℕ → List Reach → List Reach
  changed_to zero rs = rs
  changed_to (suc k) [] = []
  changed_to (suc k) (r ∷ rs) = f r ∷ changed_to k rs

  pub changed_all : (k : ℕ) (rs : List Reach) → length rs ≤ k → changed_to k rs ≡ map f rs
  changed_all zero [] past = refl
  changed_all zero (r ∷ rs) past = absurd (omega arith)
  changed_all (suc k) [] past = refl
  changed_all (suc k) (r ∷ rs) past = ap (λ l. f r ∷ l) (changed_all k rs (omega arith))

  pub length_changed : (k : ℕ) (rs : List Reach) → length (changed_to k rs) ≡ length rs
  length_changed zero rs = refl
  length_changed (suc k) [] = refl
  length_changed (suc k) (r ∷ rs) = ap suc (length_changed k rs)

  behind : (x : Reach) (ys : List Reach) (k : ℕ) → changed f (x ∷ ys) (suc k) ≡ x ∷ changed f ys k
  behind x ys k =
      elim (slice_get ys k) as (λ o. elim o [ None ↦ x ∷ ys | Some r ↦ set (x ∷ ys) (suc k) (f r) ] ≡ x ∷ (elim o [ None ↦ ys | Some r ↦ set ys k (f r) ])) [
        | None ↦ refl
        | Some r ↦ refl
      ]

  one_more : (k : ℕ) (rs : List Reach) → k < length rs → changed f (changed_to k rs) k ≡ changed_to (suc k) rs
  one_more zero [] within = absurd (omega arith)
  one_more zero (r ∷ rs) within = refl
  one_more (suc k) [] within = absurd (omega arith)
  one_more (suc k) (r ∷ rs) within =
      behind (f r) (changed_to k rs) k ∙ ap (λ l. f r ∷ l) (one_more k rs (omega arith))

  pub changed_more : (k : ℕ) (rs : List Reach) → k < length rs → changed f (changed_to k rs) k ≡ changed_to (k + 1) rs
  changed_more k rs within = rw add-one (one_more k rs within)
