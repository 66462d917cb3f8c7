-- The places of a heap's entries lie as a tree: place 0 is the top, and each other one is right below one.
use Rattle.std.specs.Prelude.{ℕ, ◌+◌, ◌-◌, ◌*◌, ◌/◌}

-- the place right above another one
abbrev pub above : ℕ → ℕ
above i = (i - 1) / 2

-- the first of the two places right below; the second follows it
abbrev pub below : ℕ → ℕ
below i = 2 * i + 1
