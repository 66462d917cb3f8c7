-- The lines of a report.
use Rattle.std.specs.Prelude.{ℕ, ◌+◌, cond, ◌&&◌, List, [], ◌∷◌, ◌++◌, length, ℤ, Some, None, codes, decimal, Option, slice_index_or}
use Rattle.std.specs.Fmt.{signed_decimal}
use Rattle.scheme.specs.declared.rows.Reach.{Reach}
use Rattle.scheme.specs.Flow.{value}
use Rattle.scheme.specs.Marks.{sided}
use Rattle.scheme.specs.Questions.{shaped}
use Rattle.scheme.specs.Scheme.{Scheme}
use Rattle.scheme.specs.Words.{side_from}

-- a word with its space, a number and a newline
abbrev pub number_line : List ℕ → ℕ → List ℕ
number_line word n = word ++ (decimal n ++ codes "\n")

abbrev pub value_line : ℤ → List ℕ
value_line z = codes "value " ++ (signed_decimal z ++ codes "\n")

abbrev pub side_line : List ℕ → List ℕ
side_line marks = codes "side" ++ (side_from 0 marks ++ codes "\n")

-- a reach and its flow
abbrev pub flow_line : ℕ → ℕ → List ℕ
flow_line reach flow = codes "flow " ++ (decimal reach ++ (codes " " ++ (decimal flow ++ codes "\n")))

-- a line for each reach, in number order; the first is that of the reach k
abbrev pub flow_lines : ℕ → List Reach → List (List ℕ)
flow_lines k [] = []
flow_lines k (r ∷ rs) = flow_line k r.flow ∷ flow_lines (k + 1) rs

-- the line of a reach that has this flow; there is none where the reach is not in the list
abbrev pub flow_told : ℕ → Option ℕ → List ℕ
flow_told reach None = []
flow_told reach (Some flow) = flow_line reach flow

-- all the lines of a report, in their order
abbrev pub lines_of_report : Scheme → List ℕ → ℕ → List (List ℕ)
lines_of_report s marks rounds =
    number_line (codes "points ") s.points
    ∷ number_line (codes "reaches ") (length s.reaches)
    ∷ value_line (value s)
    ∷ number_line (codes "rounds ") rounds
    ∷ side_line marks
    ∷ flow_lines 0 s.reaches

-- The bytes of one line, counted from 0. There are none past the last line, for a register without the shape that is
-- asked for, or for marks that are no side of it.
abbrev pub line_bytes : Scheme → List ℕ → ℕ → ℕ → List ℕ
line_bytes s marks rounds line = cond (shaped s && sided s marks) (slice_index_or (lines_of_report s marks rounds) line []) []
