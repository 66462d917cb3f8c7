-- The points of a side, and the marks that say the same.
use Rattle.std.specs.Prelude.{◌≡◌, ℕ, ◌+◌, ◌≤◌, max, List, length, fold}
use Rattle.std.specs.List.{AllByRecursion}
use Rattle.scheme.specs.Flow.{among}
use Rattle.scheme.specs.Marks.{marked}

-- as many marks as there are points, or more where the side has a point past them
abbrev pub extent : ℕ → List ℕ → ℕ
extent points side = fold (λ most v. max most (v + 1)) points side

-- a list of marks that says of each point whether it is in the side
pub record MarksOf (points : ℕ) (side : List ℕ) (marks : List ℕ) : Type 0 where
  pub count : length marks ≡ extent points side
  pub bits : AllByRecursion (λ m. m ≤ 1) marks
  pub members : (v : ℕ) → marked marks v ≡ among side v
