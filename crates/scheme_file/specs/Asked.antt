-- The questions put to a byte string, of its length and then of each record in turn. The first answered no is
-- the refusal.
use Rattle.std.specs.Prelude.{ℕ, zero, suc, ◌+◌, ◌/◌, ◌%◌, Bool, cond, not, ◌&&◌, ◌||◌, List, [], ◌∷◌, length, is_some, Some, None, Ok, Err, Option, Result, ◌==◌, nat_le, nat_lt}
use Rattle.scheme.specs.declared.faults.Layer.TheVariants.{File}
use Rattle.scheme.specs.declared.faults.Refusal.{Refusal}
use Rattle.scheme.specs.Refusals.{refused}
use Rattle.scheme.specs.Questions.{Question, first_no}
use Rattle.scheme_file.specs.Numbers.{two_at, four_at}

-- What a record at a place says of itself: its body's length, its kind, and where the next record begins.
abbrev pub length_at : List ℕ → ℕ → ℕ
length_at bs at = four_at bs at

abbrev pub kind_at : List ℕ → ℕ → ℕ
kind_at bs at = two_at bs (at + 4)

abbrev pub end_at : List ℕ → ℕ → ℕ
end_at bs at = at + 6 + length_at bs at

-- Does the record lie wholly inside the file?
abbrev pub inside : List ℕ → ℕ → Bool
inside bs at = nat_le (at + 6) (length bs) && nat_le (end_at bs at) (length bs)

-- Is the kind 1, 2 or 3?
abbrev pub known : ℕ → Bool
known kind = kind == 1 || (kind == 2 || kind == 3)

-- Is it of kind 1 with a 6-byte body if it comes first, and not of kind 1 later?
abbrev pub headed : ℕ → ℕ → ℕ → Bool
headed at kind size = cond (at == 0) (kind == 1 && size == 6) (not (kind == 1))

-- If of kind 2, is it the only one so far, of whole 12-byte rows, at most 4,096?
abbrev pub rowed : Bool → ℕ → ℕ → Bool
rowed seen kind size = not (kind == 2) || (not seen && (size % 12 == 0 && nat_le (size / 12) 4096))

abbrev pub unless : Bool → ℕ → ℕ → Question
unless answer number place = cond answer None (Some (refused File number place))

-- What is asked of the record at a place, where `seen` tells whether a row block came before.
abbrev pub ask_record : List ℕ → ℕ → Bool → Question
ask_record bs at seen =
    first_no
    (unless (inside bs at) 2 at
    ∷ unless (known (kind_at bs at)) 3 at
    ∷ unless (headed at (kind_at bs at) (length_at bs at)) 4 at
    ∷ unless (rowed seen (kind_at bs at) (length_at bs at)) 5 at
    ∷ [])

-- What is asked at the end: whether there was a record, and a row block, whose place is the answer.
abbrev pub ending : ℕ → Option ℕ → Result ℕ Refusal
ending at None = Err (cond (at == 0) (refused File 4 0) (refused File 5 at))
ending at (Some rows) = Ok rows

abbrev pub rows_from : List ℕ → ℕ → Option ℕ → Option ℕ
rows_from bs at rows = cond (kind_at bs at == 2) (Some at) rows

-- The records from a place on, where `rows` is the place of the row block if one came before: where the row
-- block lies, or the first refusal. A record takes at least six bytes, so a turn for each byte is enough.
abbrev pub walk : ℕ → List ℕ → ℕ → Option ℕ → Result ℕ Refusal
walk zero bs at rows = ending at rows
walk (suc turns) bs at rows =
    cond
    (nat_lt at (length bs))
    (elim (ask_record bs at (is_some rows)) [ Some refusal ↦ Err refusal | None ↦ walk turns bs (end_at bs at) (rows_from bs at rows) ])
    (ending at rows)

-- Where the row block of a byte string lies, or the first question that it answers no.
abbrev pub block_of_rows : List ℕ → Result ℕ Refusal
block_of_rows bs = cond (nat_le (length bs) 65536) (walk (length bs) bs 0 None) (Err (refused File 1 0))

-- The first fault of a byte string.
abbrev pub fault_of : Result ℕ Refusal → Option Refusal
fault_of (Ok rows) = None
fault_of (Err refusal) = Some refusal

abbrev pub file_fault : List ℕ → Option Refusal
file_fault bs = fault_of (block_of_rows bs)
