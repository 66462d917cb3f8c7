-- Where reading finds the rows.
use Rattle.std.specs.Prelude.{◌≡◌, ℕ, ◌/◌, ◌%◌, ◌<◌, ◌≤◌, List, length, Ok, Err, Result, slice_index}
use Rattle.scheme.specs.declared.faults.FileFault.{FileFault}
use Rattle.scheme.specs.declared.faults.Refusal.{Refusal}
use Rattle.scheme.specs.Refusals.{file_refusal}
use Rattle.scheme_file.specs.Asked.{kind_at, length_at, end_at}

-- an answer with its fault told as a refusal
abbrev pub told : {X : Type 0} → Result X FileFault → Result X Refusal
told (Ok x) = Ok x
told (Err fault) = Err (file_refusal fault)

-- every element is a byte
abbrev pub Bytes : List ℕ → Type 0
Bytes bs = (i : ℕ) → slice_index bs i < 256

-- a block of whole rows after the head, inside the file
pub record RowsLie (bs : List ℕ) (at : ℕ) : Type 0 where
  pub past_head : 12 ≤ at
  pub inside : end_at bs at ≤ length bs
  pub of_rows : kind_at bs at ≡ 2
  pub whole : length_at bs at % 12 ≡ 0
  pub few : length_at bs at / 12 ≤ 4096
