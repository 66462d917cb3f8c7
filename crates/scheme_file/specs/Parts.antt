-- What a part of a file is: its kind, its place and the bytes that stand there.
use Rattle.std.specs.Prelude.{◌≡◌, ℕ, ◌+◌, ◌/◌, min, List, length, Some, None, Option}
use Rattle.std.specs.List.{between}
use Rattle.std.specs.Option.{option_map}
use Rattle.scheme_file.specs.declared.parts.Part.{Part}
use Rattle.scheme_file.specs.declared.parts.Part.TheVariants.{Head, Rows, Note}
use Rattle.scheme_file.specs.Numbers.{two_at}
use Rattle.scheme_file.specs.Layout.{FileRecord, LaidAt, head, rows, note}
use Rattle.scheme_file.specs.Rows.{rows_at}
use Rattle.scheme_file.specs.Asked.{kind_at, length_at}

abbrev pub part_kind : Part → ℕ
part_kind (Head at body) = 1
part_kind (Rows at body) = 2
part_kind (Note at body) = 3

abbrev pub part_place : Part → ℕ
part_place (Head at body) = at
part_place (Rows at body) = at
part_place (Note at body) = at

-- the length of the body
abbrev pub part_size : Part → ℕ
part_size (Head at body) = 6
part_size (Rows at body) = length body.now
part_size (Note at body) = length body.now

-- where the next record begins, as far as a place has a number
abbrev pub end_of_part : Part → ℕ
end_of_part part = min (part_place part + 6 + part_size part) 18446744073709551615

-- the body of a head
abbrev pub head_body : Part → Option (List ℕ)
head_body (Head at body) = Some body.now
head_body (Rows at body) = None
head_body (Note at body) = None

-- the numbers of a head, which no other part has
abbrev pub part_points : Part → Option ℕ
part_points part = option_map (λ body. two_at body 0) (head_body part)

abbrev pub part_inlet : Part → Option ℕ
part_inlet part = option_map (λ body. two_at body 2) (head_body part)

abbrev pub part_outlet : Part → Option ℕ
part_outlet part = option_map (λ body. two_at body 4) (head_body part)

-- its bytes are the file's from a place on, and the numbers of a head those that stand there
abbrev pub ValuesAt : List ℕ → ℕ → Part → Type 0
ValuesAt bs p (Head at body) =
    (two_at body.now 0 ≡ two_at bs p) × (two_at body.now 2 ≡ two_at bs (p + 2)) × (two_at body.now 4 ≡ two_at bs (p + 4)) × (body.now ≡ between p (p + 6) bs)
ValuesAt bs p (Rows at body) = body.now ≡ between p (p + length body.now) bs
ValuesAt bs p (Note at body) = body.now ≡ between p (p + length body.now) bs

-- the record that a part is
abbrev pub part_record : Part → FileRecord
part_record (Head at body) = head (two_at body.now 0) (two_at body.now 2) (two_at body.now 4)
part_record (Rows at body) = rows (rows_at body.now 0 (length body.now / 12))
part_record (Note at body) = note body.now

-- the part is the record that stands at a place, and is laid there
pub record PartAt (bs : List ℕ) (at : ℕ) (part : Part) : Type 0 where
  pub place : part_place part ≡ at
  pub kind : part_kind part ≡ kind_at bs at
  pub size : part_size part ≡ length_at bs at
  pub values : ValuesAt bs (at + 6) part
  pub laid : LaidAt bs at (part_record part)
