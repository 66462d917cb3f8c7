-- The reaches that join a point with another, in number order.
use Rattle.std.specs.Prelude.{ℕ, Bool, not, ◌||◌, List, drop, Option, ◌==◌}
use Rattle.scheme.specs.declared.rows.Reach.{Reach}
use Rattle.scheme.specs.Questions.{first_fail}

-- Does the reach begin or end at the point?
abbrev pub touches : ℕ → Reach → Bool
touches v r = r.tail == v || r.head == v

-- the least reach from k on that does, or none
abbrev pub next_that_touches : List Reach → ℕ → ℕ → Option ℕ
next_that_touches rs v k = first_fail (λ r. not (touches v r)) k (drop k rs)
