-- A part is the record that is laid at its place.
use Rattle.std.proofs.Common.{◌≡◌, ℕ, ◌+◌, ◌-◌, ◌/◌, ◌%◌, ◌<◌, ◌≤◌, true, Bor, List, ◌++◌, length, get_or, take, drop, sym, refl, ap, ◌∙◌, subst, ⊎_elim, arith}
use Rattle.std.specs.List.{between, flat_map}
use Rattle.std.proofs.lemmas.List.Edits.{length-between, get_or-between}
use Rattle.std.proofs.lemmas.List.{append-nil, drop_all, drop-drop, get_or_past, take-append-drop}
use Rattle.std.proofs.lemmas.Bool.{cases_lt}
use Rattle.std.proofs.lemmas.Bool.Decides.{nat_tests}
use Rattle.scheme_file.specs.declared.parts.Part.{Part}
use Rattle.scheme_file.specs.declared.parts.Part.TheVariants.{Head, Rows, Note}
use Rattle.scheme_file.specs.Asked.{end_at, inside, kind_at, length_at}
use Rattle.scheme_file.specs.Layout.{FileRecord, rows, note, LaidAt, body_of, record_bytes, row_bytes}
use Rattle.scheme_file.specs.Parts.{PartAt, ValuesAt, part_kind, part_place, part_record, part_size}
use Rattle.scheme_file.specs.Reading.{Bytes}
use Rattle.scheme_file.specs.Rows.{rows_at}
use Rattle.scheme_file.proofs.Cut.{head_at, record_here, rows_from_lem}

-- the rows of a block of bytes are its bytes
rows_of_bytes : (bs : List ℕ) → Bytes bs → length bs % 12 ≡ 0 → flat_map row_bytes (rows_at bs 0 (length bs / 12)) ≡ bs
rows_of_bytes bs bytes whole =
    let made = flat_map row_bytes (rows_at bs 0 (length bs / 12)) in
    sym
    (rows_from_lem bs bytes 0 0 (length bs / 12) (length bs) (omega arith) (omega arith)
    ∙ ap (λ l. made ++ l) (drop_all (length bs) bs (omega arith))
    ∙ append-nil made)

between_bytes : (bs : List ℕ) (p n : ℕ) → Bytes bs → p + n ≤ length bs → Bytes (between p (p + n) bs)
between_bytes bs p n bytes inside k =
    ⊎_elim
    (λ within. subst (λ b. b < 256) (sym (get_or-between bs p (p + n) k 0 (omega arith))) (bytes (p + k)))
    (λ past. subst (λ b. b < 256) (sym (get_or_past (between p (p + n) bs) k 0 (omega (arith, length-between bs p (p + n) inside)))) (omega arith))
    (cases_lt k n)

between_rest : (bs : List ℕ) (p n : ℕ) → drop p bs ≡ between p (p + n) bs ++ drop (p + n) bs
between_rest bs p n =
    let size : (p + n) - p ≡ n = omega arith in
    sym (ap (λ m. take m (drop p bs) ++ drop (p + n) bs) size ∙ ap (λ l. take n (drop p bs) ++ l) (sym (drop-drop n p bs)) ∙ take-append-drop n (drop p bs))

-- where the record ends, by its layout
laid_by_end :
    (bs : List ℕ) (at : ℕ) (r : FileRecord) → length_at bs at ≡ length (body_of r)
    → drop at bs ≡ record_bytes r ++ drop (end_at bs at) bs → LaidAt bs at r
laid_by_end bs at r size laid =
    let end : end_at bs at ≡ at + length (record_bytes r) = omega (arith, size) in
    laid ∙ ap (λ e. record_bytes r ++ drop e bs) end

-- a head of these bytes has the numbers that stand there
head_values :
    (bs : List ℕ) (p at : ℕ) (body : Bor (List ℕ)) → p + 6 ≤ length bs → body.now ≡ between p (p + 6) bs
    → ValuesAt bs p (Head at body)
head_values bs p at body inside is =
    let here : (k q : ℕ) → k < 6 → q ≡ p + k → get_or body.now k 0 ≡ get_or bs q 0 =
    λ k q below e. ap (λ l. get_or l k 0) is ∙ get_or-between bs p (p + 6) k 0 (omega arith) ∙ ap (λ i. get_or bs i 0) (sym e) in (
      rw (here 0 p (omega arith) (omega arith), here 1 (p + 1) (omega arith) refl) refl,
      rw (here 2 (p + 2) (omega arith) refl, here 3 (p + 2 + 1) (omega arith) (omega arith)) refl,
      rw (here 4 (p + 4) (omega arith) refl, here 5 (p + 4 + 1) (omega arith) (omega arith)) refl,
      is,
    )

module _ (bs : List ℕ) (at : ℕ) (bytes : Bytes bs) (inside : end_at bs at ≤ length bs) where
  body_here :
      (body : List ℕ) → length body ≡ length_at bs at → body ≡ between (at + 6) (at + 6 + length body) bs
      → drop (at + 6) bs ≡ body ++ drop (end_at bs at) bs
  body_here body size is =
      between_rest bs (at + 6) (length body)
      ∙ ap (λ l. l ++ drop (at + 6 + length body) bs) (sym is)
      ∙ ap (λ n. body ++ drop (at + 6 + n) bs) size

  part_laid :
      (whole : kind_at bs at ≡ 2 → length_at bs at % 12 ≡ 0) (part : Part) → part_kind part ≡ kind_at bs at
      → part_size part ≡ length_at bs at → ValuesAt bs (at + 6) part → LaidAt bs at (part_record part)
  part_laid whole (Head a b) kind size values =
      laid_by_end bs at (part_record (Head a b)) (sym size) (head_at bs bytes at _ _ _ inside (sym kind) (sym size) values.0 values.1 values.2)
  part_laid whole (Rows a b) kind size values =
      let body = b.now in
      let here : Bytes body =
      subst Bytes (sym values) (between_bytes bs (at + 6) (length body) bytes (omega arith)) in
      let rounded : length body % 12 ≡ 0 = ap (λ n. n % 12) size ∙ whole (sym kind) in
      let same = rows_of_bytes body here rounded in
      let r = rows (rows_at body 0 (length body / 12)) in
      let long : length_at bs at ≡ length (body_of r) = sym size ∙ ap length (sym same) in
      laid_by_end bs at r long (record_here bs bytes at r inside (sym kind) long (body_here body size values ∙ ap (λ l. l ++ drop (end_at bs at) bs) (sym same)))
  part_laid whole (Note a b) kind size values =
      laid_by_end bs at (note b.now) (sym size) (record_here bs bytes at (note b.now) inside (sym kind) (sym size) (body_here b.now size values))

  part_at :
      (whole : kind_at bs at ≡ 2 → length_at bs at % 12 ≡ 0) (part : Part) → part_place part ≡ at
      → part_kind part ≡ kind_at bs at → part_size part ≡ length_at bs at → ValuesAt bs (at + 6) part → PartAt bs at part
  part_at whole part place kind size values =
      record {
        place = place;
        kind = kind;
        size = size;
        values = values;
        laid = part_laid whole part kind size values;
      }

-- the part whose body stands behind a record's header, by its kind
module _ (bs : List ℕ) (at : ℕ) (bytes : Bytes bs) (within : inside bs at ≡ true) (body : Bor (List ℕ))
    (long : length body.now ≡ length_at bs at) (is : body.now ≡ between (at + 6) (end_at bs at) bs) where
  ends : end_at bs at ≤ length bs
  ends = grind (arith, nat_tests)

  values : body.now ≡ between (at + 6) (at + 6 + length body.now) bs
  values = is ∙ ap (λ n. between (at + 6) (at + 6 + n) bs) (sym long)

  pub head_part : kind_at bs at ≡ 1 → length body.now ≡ 6 → (six : Bor (List ℕ)) → six.now ≡ body.now → PartAt bs at (Head at six)
  head_part kind size six same =
      let room : at + 6 + 6 ≤ length bs = omega (arith, ends, long, size) in
      part_at bs at bytes ends (λ e. omega (arith, kind)) (Head at six) refl (sym kind) (sym size ∙ long)
      (head_values bs (at + 6) at six room (same ∙ values ∙ ap (λ n. between (at + 6) (at + 6 + n) bs) size))

  pub rows_part : kind_at bs at ≡ 2 → length body.now % 12 ≡ 0 → PartAt bs at (Rows at body)
  rows_part kind whole =
      part_at bs at bytes ends (λ _. ap (λ n. n % 12) (sym long) ∙ whole) (Rows at body) refl (sym kind) long values

  pub note_part : kind_at bs at ≡ 3 → PartAt bs at (Note at body)
  note_part kind = part_at bs at bytes ends (λ e. omega (arith, kind)) (Note at body) refl (sym kind) long values
