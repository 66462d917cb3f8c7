-- Reaches that carry nothing.
use Rattle.std.specs.Prelude.{ℕ}
use Rattle.scheme.specs.declared.rows.Reach.{Reach}

-- of a tail, a head and a limit
abbrev pub dry_reach : ℕ × ℕ × ℕ → Reach
dry_reach (tail, head, limit) = record { tail = tail; head = head; limit = limit; flow = 0 }

abbrev pub dry_twin : Reach
dry_twin = record { tail = 0; head = 1; limit = 1; flow = 0 }
