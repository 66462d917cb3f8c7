-- The order of a heap's keys by place.
use Rattle.std.proofs.Common.{ℕ, zero, suc, ◌+◌, ◌<◌, ◌≤◌, sym, subst, ⊎_elim, arith}
use Rattle.std.proofs.lemmas.Bool.{cases_eq}
use Rattle.pick.specs.Places.{above}
use Rattle.pick.specs.Trees.{Ordered}

-- no key is greater than the one at the top
pub top_greatest : (k : ℕ → ℕ) (n : ℕ) → Ordered k n → (i : ℕ) → i < n → k i ≤ k 0
top_greatest k n ordered i within = upward (i + 1) i (omega arith) within
  where
    upward : (m i : ℕ) → i < m → i < n → k i ≤ k 0
    upward zero i less within = omega arith
    upward (suc m) i less within =
        ⊎_elim
        (λ top. subst (λ j. k j ≤ k 0) (sym top) (omega arith))
        (λ low. omega (arith, ordered i (omega arith) within, upward m (above i) (omega arith) (omega arith)))
        (cases_eq i 0)
