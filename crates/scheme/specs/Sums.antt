-- Amounts of the reaches, added up.
use Rattle.std.specs.Prelude.{◌≡◌, ℕ, zero, suc, ◌+◌, cond, Option, unwrap_or, ℤ, pos, ◌+ℤ◌, ◌≤ℤ◌, ◌==◌}
use Rattle.std.proofs.Common.{neg_ℤ}
use Rattle.std.proofs.Math.IntN.{sub_ℕ}
use Rattle.scheme.specs.declared.rows.Reach.{Reach}
use Rattle.scheme.specs.Flow.{Points, leaves}

-- z is the sum of n amounts, where P k holds of the amount at place k; an amount that is absent adds nothing
abbrev pub Adds : (ℕ → Option ℤ → Type 0) → ℕ → ℤ → Type 0
Adds P zero z = z ≡ pos 0
Adds P (suc n) z = (y : ℤ) × (x : Option ℤ) × Adds P n y × P n x × (z ≡ y +ℤ unwrap_or x (pos 0))

pub record IsWithin (n : ℕ) (z : ℤ) : Type 0 where
  pub above : neg_ℤ (pos n) ≤ℤ z
  pub below : z ≤ℤ pos n

-- an amount of which 8,192 make a sum that fits: of a limit and a flow together
abbrev pub most_amount : ℕ
most_amount = 0x2_0000_0000

abbrev pub IsSmall : ℤ → Type 0
IsSmall z = IsWithin most_amount z

-- what a reach takes out of a point less what it brings in
abbrev pub gain_between : ℕ → ℕ → ℕ → ℕ → ℤ
gain_between v tail head flow = sub_ℕ (cond (tail == v) flow 0) (cond (head == v) flow 0)

abbrev pub gain : ℕ → Reach → ℤ
gain v r = gain_between v r.tail r.head r.flow

-- what it adds to the capacity of a set of points
abbrev pub leaving : Points → Reach → ℤ
leaving x r = sub_ℕ (cond (leaves x r) r.limit 0) 0

-- what it takes out of a point, less what it brings in and less what it adds to the capacity
abbrev pub short : ℕ → Points → Reach → ℤ
short v x r = sub_ℕ (cond (r.tail == v) r.flow 0) (cond (r.head == v) r.flow 0 + cond (leaves x r) r.limit 0)
