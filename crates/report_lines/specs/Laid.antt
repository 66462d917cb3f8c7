-- Bytes laid into a table.
use Rattle.std.specs.Prelude.{List, ℕ, ◌++◌, length, drop}

-- the table with new bytes in front, and else as it was
abbrev pub written : List ℕ → List ℕ → List ℕ
written new old = new ++ drop (length new) old
