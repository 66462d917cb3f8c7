-- What a scheme file in place means, and what a write to it leaves.
use Rattle.std.specs.Prelude.{◌≡◌, ℕ, ◌+◌, ◌*◌, cond, ◌&&◌, List, [], ◌∷◌, ◌++◌, length, take, drop, nat_le, nat_lt}
use Rattle.std.specs.List.{range_with_len, flat_map}
use Rattle.scheme.specs.Kept.{Kept}
use Rattle.scheme.specs.Scheme.{Scheme}
use Rattle.scheme_file.specs.declared.files.SchemeFile.{SchemeFile}
use Rattle.scheme_file.specs.declared.reading.Found.{Found}
use Rattle.scheme_file.specs.declared.views.SchemeView.{SchemeView}
use Rattle.scheme_file.specs.Layout.{Contents, FileOf, rows_begin}
use Rattle.scheme_file.specs.Reading.{Bytes}
use Rattle.scheme_file.specs.Rows.{scheme_at, row_place, patched}

-- the bytes as they are now
abbrev pub file_bytes : SchemeFile → List ℕ
file_bytes f = f.bytes.now

-- how many of the rows that reading found lie in the bytes, behind the head: all of them, or else none
abbrev pub held_in : List ℕ → ℕ → ℕ → ℕ
held_in bs rows count = cond (nat_le 12 rows && nat_le (rows + 12 * count) (length bs)) count 0

-- how many of the rows that were found lie in the bytes, and the register that stands there
abbrev pub held_of : List ℕ → Found → ℕ
held_of bs found = held_in bs found.rows found.count

abbrev pub found_scheme : List ℕ → Found → Scheme
found_scheme bs found = scheme_at bs found.rows (held_of bs found)

abbrev pub held_rows : SchemeFile → ℕ
held_rows f = held_of (file_bytes f) f.found

abbrev pub file_scheme : SchemeFile → Scheme
file_scheme f = found_scheme (file_bytes f) f.found

-- the bytes with a number put into the four at an offset of a reach's row; as they were if there is no such reach
abbrev pub row_patched : SchemeFile → ℕ → ℕ → ℕ → List ℕ
row_patched f reach offset x =
    cond (nat_lt reach (held_rows f)) (patched (file_bytes f) (row_place f.found.rows reach + offset) x) (file_bytes f)

-- the bytes are a scheme file, and its rows lie where they were found
pub record FoundIn (bs : List ℕ) (found : Found) : Type 0 where
  pub contents : Contents
  pub file : FileOf bs contents
  pub begin : found.rows ≡ rows_begin contents
  pub count : found.count ≡ length contents.reaches
  pub bytes : Bytes bs

-- a file that is accepted, with its rows where they were found
abbrev pub Accepted : SchemeFile → Type 0
Accepted f = FoundIn (file_bytes f) f.found

abbrev pub view_bytes : SchemeView → List ℕ
view_bytes v = v.bytes.now

abbrev pub view_rows : SchemeView → ℕ
view_rows v = held_of (view_bytes v) v.found

abbrev pub view_scheme : SchemeView → Scheme
view_scheme v = found_scheme (view_bytes v) v.found

-- the ends of so many rows, tail and head of each, as bytes
abbrev pub ends_bytes : List ℕ → ℕ → ℕ → List ℕ
ends_bytes bs rows count = flat_map (λ reach. take 4 (drop (row_place rows reach) bs)) (range_with_len 0 count)

-- every byte that is in no limit and no flow: those before the rows, the ends, and those behind the rows
abbrev pub besides : List ℕ → ℕ → ℕ → List ℕ
besides bs rows count = take rows bs ++ (ends_bytes bs rows count ++ drop (rows + 12 * count) bs)

-- what a file keeps through every write: where its rows lie, how long it is, every byte besides limits and flows, and
-- the loan that it lives on
abbrev pub file_kept : SchemeFile → Kept
file_kept f =
    record {
      numbers = f.found.rows ∷ f.found.count ∷ length (file_bytes f) ∷ besides (file_bytes f) f.found.rows (held_rows f);
      loans = f.bytes.ghost_name ∷ [];
    }
