-- What a book keeps beside its meaning.
use Rattle.std.specs.Prelude.{ℕ, List, []}
use Rattle.std.specs.Borrow.{GName}

-- What no write changes: numbers that stand beside the scheme (as the bytes of a file that are no limit and no flow),
-- and the loans that the book lives on, so that whoever lent it something knows what comes back.
pub record Kept : Type 0 where
  pub numbers : List ℕ
  pub loans : List GName

abbrev pub nothing_kept : Kept
nothing_kept = record { numbers = []; loans = [] }
