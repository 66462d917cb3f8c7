-- The register that stands in a file's bytes: points, inlet and outlet in the head, and a reach in each row.
use Rattle.std.specs.Prelude.{ℕ, ◌+◌, ◌*◌, List, ◌++◌, map, take, drop}
use Rattle.std.specs.List.{range_with_len}
use Rattle.scheme.specs.declared.rows.Reach.{Reach}
use Rattle.scheme.specs.Scheme.{Scheme}
use Rattle.scheme_file.specs.Numbers.{four, two_at, four_at}

-- the row at a place
abbrev pub row_at : List ℕ → ℕ → Reach
row_at bs p = record { tail = two_at bs p; head = two_at bs (p + 2); limit = four_at bs (p + 4); flow = four_at bs (p + 8) }

-- the place of a row, where the first is at p
abbrev pub row_place : ℕ → ℕ → ℕ
row_place p reach = p + 12 * reach

-- the rows from a place on, so many
abbrev pub rows_at : List ℕ → ℕ → ℕ → List Reach
rows_at bs p count = map (λ reach. row_at bs (row_place p reach)) (range_with_len 0 count)

-- what the bytes mean with so many rows from a place on
abbrev pub scheme_at : List ℕ → ℕ → ℕ → Scheme
scheme_at bs p count =
    record { points = two_at bs 6; inlet = two_at bs 8; outlet = two_at bs 10; reaches = rows_at bs p count }

-- the bytes with a number put into the four from a place on; every other byte stays
abbrev pub patched : List ℕ → ℕ → ℕ → List ℕ
patched bs p x = take p bs ++ (four x ++ drop (p + 4) bs)
