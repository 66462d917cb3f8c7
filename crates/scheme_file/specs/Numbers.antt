-- Numbers of two and four bytes, the low byte first.
use Rattle.std.specs.Prelude.{ℕ, ◌+◌, ◌*◌, ◌/◌, ◌%◌, List, [], ◌∷◌, map, slice_index}
use Rattle.std.specs.List.{range_with_len}

-- a number as bytes
abbrev pub two : ℕ → List ℕ
two n = (n % 256) ∷ (n / 256 % 256) ∷ []

abbrev pub four : ℕ → List ℕ
four n = (n % 256) ∷ (n / 256 % 256) ∷ (n / 65536 % 256) ∷ (n / 16777216 % 256) ∷ []

-- so many bytes from a place on, each 0 that is past the end
abbrev pub bytes_from : List ℕ → ℕ → ℕ → List ℕ
bytes_from bs p n = map (λ k. slice_index bs (p + k)) (range_with_len 0 n)

-- the number that the bytes from a place on are
abbrev pub two_at : List ℕ → ℕ → ℕ
two_at bs p = slice_index bs p + slice_index bs (p + 1) * 256

abbrev pub four_at : List ℕ → ℕ → ℕ
four_at bs p = slice_index bs p + slice_index bs (p + 1) * 256 + slice_index bs (p + 2) * 65536 + slice_index bs (p + 3) * 16777216
