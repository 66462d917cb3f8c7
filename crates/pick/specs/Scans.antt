-- What a scan through the keys finds.
use Rattle.std.specs.Prelude.{ℕ, Some, None, Option}
use Rattle.pick.specs.Keys.{Keys, Outside, NoneOutside, NoneGreater}

-- v is outside with the key k, and no point has a greater one
pub record GreatestKey (ks : Keys) (v k : ℕ) : Type 0 where
  pub outside : Outside ks v k
  pub greatest : NoneGreater ks k

-- the best of the points, or nothing if none of them is outside
abbrev pub Best : Keys → Option (ℕ × ℕ) → Type 0
Best ks None = NoneOutside ks
Best ks (Some best) = GreatestKey ks best.0 best.1
