-- More on sums over lists, and over the points below a number.
use Rattle.std.proofs.Common.{◌≡◌, ℕ, ◌+◌, ◌<◌, cond, eqb, ◌≢◌, List, map, sum_by, ap, ◌∙◌, arith}
use Rattle.std.proofs.lemmas.List.Folds.{fold-map}
use Rattle.std.proofs.lemmas.Bool.Decides.{nat_tests}
use Rattle.scheme.proofs.SumLaws.{sum_below, below_same, below_plus, below_one}

pub sum_by_map : {X Y : Type 0} (f : Y → ℕ) (t : X → Y) (xs : List X) → sum_by f (map t xs) ≡ sum_by (λ x. f (t x)) xs
sum_by_map f t xs = fold-map (λ a y. a + f y) t 0 xs

-- Two functions that differ at two points at most, and have equal sums.
-- Each is given at those two points what the other has there; then they agree everywhere.
module _ (f g : ℕ → ℕ) (i o n : ℕ) (in-i : i < n) (in-o : o < n) (apart : i ≢ o) (same : (v : ℕ) → v < n → v ≢ i → v ≢ o → f v ≡ g v) where
  abbrev evened : (ℕ → ℕ) → (ℕ → ℕ) → ℕ → ℕ
  evened p q v = p v + (cond (eqb i v) (q v) 0 + cond (eqb o v) (q v) 0)

  evened_alike : (v : ℕ) → v < n → evened f g v ≡ evened g f v
  evened_alike v below = grind (arith, nat_tests)

  evened_total : (p q : ℕ → ℕ) → sum_below n (evened p q) ≡ sum_below n p + (q i + q o)
  evened_total p q =
      below_plus p (λ v. cond (eqb i v) (q v) 0 + cond (eqb o v) (q v) 0) n
      ∙ ap (λ t. sum_below n p + t)
      (below_plus (λ v. cond (eqb i v) (q v) 0) (λ v. cond (eqb o v) (q v) 0) n
      ∙ omega (arith, below_one i q n in-i, below_one o q n in-o))

  pub differ_at_two : sum_below n f ≡ sum_below n g → f i + f o ≡ g i + g o
  differ_at_two sums = omega (arith, evened_total f g, evened_total g f, below_same (evened f g) (evened g f) n evened_alike)
