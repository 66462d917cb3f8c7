-- The bounds of the subject, each under one name.
use Rattle.std.specs.Prelude.{ℕ}

-- the most points, and the most reaches, of a well-formed register
abbrev pub most_points : ℕ
most_points = 512

abbrev pub most_reaches : ℕ
most_reaches = 8192

-- the greatest limit of a reach, in litres per second
abbrev pub greatest_limit : ℕ
greatest_limit = 1000000

-- a number that is never a point, and stands where there is none
abbrev pub no_point : ℕ
no_point = 65535
