-- A walk over records that are laid one after another meets just those.
use Rattle.std.proofs.Common.{◌≡◌, ℕ, zero, suc, ◌+◌, ◌*◌, ◌/◌, ◌%◌, ◌^◌, ◌<◌, ◌≤◌, Bool, true, false, cond, eqb, leb, List, [], ◌∷◌, ◌++◌, map, length, get_or, is_some, Some, None, Ok, Option, sym, refl, ap, ◌∙◌, subst, arith}
use Rattle.std.specs.List.{flat_map, AllByRecursion}
use Rattle.std.proofs.lemmas.List.{append_assoc, append-nil, length-append, get_or-append-add, same_lists}
use Rattle.std.proofs.lemmas.Grind.{flat_map-append}
use Rattle.std.proofs.lemmas.Bool.{and_from, eq-eqb, le-leb, ne_eqb}
use Rattle.scheme.specs.declared.rows.Reach.{Reach}
use Rattle.scheme.specs.Scheme.{Scheme}
use Rattle.scheme_file.specs.Asked.{ask_record, inside, known, headed, rowed, block_of_rows, end_at, length_at, kind_at}
use Rattle.scheme_file.specs.Layout.{FileRecord, head, rows, note, kind_of, body_of, row_bytes, record_bytes, Contents, FileOf, RowFits, contents_scheme, front_bytes}
use Rattle.scheme_file.specs.Numbers.{two, four, two_at, four_at}
use Rattle.scheme_file.specs.Rows.{row_at, rows_at, scheme_at}
use Rattle.scheme_file.proofs.RowLists.{length_rows, get_d_rows}
use Rattle.scheme_file.proofs.RowWrites.{reach_of}
use Rattle.scheme_file.proofs.Patches.{four_back}
use Rattle.scheme_file.proofs.Walks.{Walking, walking_none, walking_more, walking_all}

pub two_back : (n : ℕ) → n < 2 ^ 16 → two_at (two n) 0 ≡ n
two_back n fits = omega arith

-- what stands behind a front
module _ (pre ys : List ℕ) (p k : ℕ) (e : p ≡ length pre + k) where
  past : get_or (pre ++ ys) p 0 ≡ get_or ys k 0
  past = ap (λ i. get_or (pre ++ ys) i 0) e ∙ get_or-append-add pre ys k 0

pub two_at_past : (pre ys : List ℕ) (p k : ℕ) → p ≡ length pre + k → two_at (pre ++ ys) p ≡ two_at ys k
two_at_past pre ys p k e = rw (past pre ys p k e, past pre ys (p + 1) (k + 1) (omega arith)) refl

pub four_at_past : (pre ys : List ℕ) (p k : ℕ) → p ≡ length pre + k → four_at (pre ++ ys) p ≡ four_at ys k
four_at_past pre ys p k e =
    rw (
      past pre ys p k e,
      past pre ys (p + 1) (k + 1) (omega arith),
      past pre ys (p + 2) (k + 2) (omega arith),
      past pre ys (p + 3) (k + 3) (omega arith),
    )
    refl

kind_fits : (r : FileRecord) → kind_of r < 2 ^ 16
kind_fits (head n s t) = omega arith
kind_fits (rows rs) = omega arith
kind_fits (note bs) = omega arith

asked_yes :
    (bs : List ℕ) (at : ℕ) (seen : Bool) → inside bs at ≡ true → known (kind_at bs at) ≡ true
    → headed at (kind_at bs at) (length_at bs at) ≡ true → rowed seen (kind_at bs at) (length_at bs at) ≡ true
    → ask_record bs at seen ≡ None
asked_yes bs at seen i k h r = rw (i, k, h, r) refl

known_kind : (r : FileRecord) → known (kind_of r) ≡ true
known_kind (head n s t) = refl
known_kind (rows rs) = refl
known_kind (note bs) = refl

scheme_of :
    (n n' s s' t t' : ℕ) (rs rs' : List Reach) → n ≡ n' → s ≡ s' → t ≡ t' → rs ≡ rs'
    → ◌≡◌ {A = Scheme} (record { points = n; inlet = s; outlet = t; reaches = rs }) (record { points = n'; inlet = s'; outlet = t'; reaches = rs' })
scheme_of n n' s s' t t' rs rs' en es et ers = cc

-- one record, behind a front and before a rest
module _ (bs pre rest : List ℕ) (r : FileRecord) (laid : bs ≡ pre ++ (record_bytes r ++ rest))
    (small : length bs ≤ 65536) where
  total : length bs ≡ length pre + (6 + length (body_of r) + length rest)
  total = ap length laid ∙ simp length-append (omega arith)

  pub length_here : length_at bs (length pre) ≡ length (body_of r)
  length_here =
      ap (λ b. length_at b (length pre)) laid
      ∙ four_at_past pre (record_bytes r ++ rest) (length pre) 0 (omega arith)
      ∙ four_back (length (body_of r)) (omega (arith, total))

  kind_here : kind_at bs (length pre) ≡ kind_of r
  kind_here =
      ap (λ b. kind_at b (length pre)) laid
      ∙ two_at_past pre (record_bytes r ++ rest) (length pre + 4) 4 refl
      ∙ two_back (kind_of r) (kind_fits r)

  end_here : end_at bs (length pre) ≡ length (pre ++ record_bytes r)
  end_here = ap (λ n. length pre + 6 + n) length_here ∙ sym (simp length-append (omega arith))

  inside_here : inside bs (length pre) ≡ true
  inside_here =
      and_from
      (leb (length pre + 6) (length bs))
      (leb (end_at bs (length pre)) (length bs))
      (le-leb (length pre + 6) (length bs) (omega (arith, total)))
      (le-leb (end_at bs (length pre)) (length bs) (omega (arith, total, length_here)))

  -- the walk goes past it, and knows it for a row block if it is one
  pub walked :
      (seen : Option ℕ) → headed (length pre) (kind_of r) (length (body_of r)) ≡ true
      → rowed (is_some seen) (kind_of r) (length (body_of r)) ≡ true → Walking bs (length pre) seen
      → Walking bs (length (pre ++ record_bytes r)) (cond (eqb (kind_of r) 2) (Some (length pre)) seen)
  walked seen h o w =
      let asked =
      asked_yes bs (length pre) (is_some seen) inside_here (ap known kind_here ∙ known_kind r) (rw (kind_here, length_here) h) (rw (kind_here, length_here) o) in
      let more = walking_more bs (length pre) seen w (omega (arith, total)) asked in
      subst (λ e. Walking bs e (cond (eqb (kind_of r) 2) (Some (length pre)) seen)) end_here
      (subst (λ k. Walking bs (end_at bs (length pre)) (cond (eqb k 2) (Some (length pre)) seen)) kind_here more)

pub later_headed : (at kind size : ℕ) → 0 < at → eqb kind 1 ≡ false → headed at kind size ≡ true
later_headed at kind size later other = rw (ne_eqb at 0 (λ e. omega arith), other) refl

-- the bytes of notes
abbrev pub notes_bytes : List (List ℕ) → List ℕ
notes_bytes notes = flat_map record_bytes (map note notes)

pub notes_walked :
    (notes : List (List ℕ)) (bs pre rest : List ℕ) (seen : Option ℕ) → bs ≡ pre ++ (notes_bytes notes ++ rest)
    → length bs ≤ 65536 → 0 < length pre → Walking bs (length pre) seen
    → Walking bs (length (pre ++ notes_bytes notes)) seen
notes_walked [] bs pre rest seen laid short later w = subst (λ l. Walking bs (length l) seen) (sym (append-nil pre)) w
notes_walked (n ∷ ns) bs pre rest seen laid short later w =
    let first = record_bytes (note n) in
    let here : bs ≡ pre ++ (first ++ (notes_bytes ns ++ rest)) =
    laid ∙ ap (λ l. pre ++ l) (append_assoc first (notes_bytes ns) rest) in
    let step =
    walked bs pre (notes_bytes ns ++ rest) (note n) here short seen (later_headed (length pre) 3 (length n) later refl) refl w in
    let longer : 0 < length (pre ++ first) = simp length-append (omega arith) in
    let more =
    notes_walked ns bs (pre ++ first) rest seen (here ∙ sym (append_assoc pre first (notes_bytes ns ++ rest))) short longer step in
    subst (λ l. Walking bs (length l) seen) (append_assoc pre first (notes_bytes ns)) more

pub length_rows_bytes : (rs : List Reach) → length (flat_map row_bytes rs) ≡ 12 * length rs
length_rows_bytes [] = refl
length_rows_bytes (r ∷ rs) = omega (arith, length_rows_bytes rs)

whole_rows : (rs : List Reach) → length rs ≤ 4096 → rowed false 2 (length (flat_map row_bytes rs)) ≡ true
whole_rows rs few =
    let whole : length (flat_map row_bytes rs) % 12 ≡ 0 = omega (arith, length_rows_bytes rs) in
    let most : length (flat_map row_bytes rs) / 12 ≤ 4096 = omega (arith, length_rows_bytes rs) in
    and_from (eqb (length (flat_map row_bytes rs) % 12) 0) (leb (length (flat_map row_bytes rs) / 12) 4096) (eq-eqb _ 0 whole) (le-leb _ 4096 most)

-- the rows that are laid are those that are read
rows_read :
    (rs : List Reach) (bs pre rest : List ℕ) → bs ≡ pre ++ (flat_map row_bytes rs ++ rest) → AllByRecursion RowFits rs
    → (k : ℕ) (d : Reach) → k < length rs → row_at bs (length pre + 12 * k) ≡ get_or rs k d
rows_read [] bs pre rest laid fit k d below = absurd (omega arith)
rows_read (r ∷ rs) bs pre rest laid fit zero d below =
    let ys = (row_bytes r ++ flat_map row_bytes rs) ++ rest in
    ap (λ b. row_at b (length pre + 12 * 0)) laid
    ∙ reach_of _ _ _ _ _ _ _ _
    (two_at_past pre ys (length pre + 12 * 0) 0 (omega arith) ∙ two_back r.tail fit.0.tail)
    (two_at_past pre ys (length pre + 12 * 0 + 2) 2 (omega arith) ∙ two_back r.head fit.0.head)
    (four_at_past pre ys (length pre + 12 * 0 + 4) 4 (omega arith) ∙ four_back r.limit fit.0.limit)
    (four_at_past pre ys (length pre + 12 * 0 + 8) 8 (omega arith) ∙ four_back r.flow fit.0.flow)
rows_read (r ∷ rs) bs pre rest laid fit (suc k) d below =
    let here : bs ≡ (pre ++ row_bytes r) ++ (flat_map row_bytes rs ++ rest) =
    laid ∙ ap (λ l. pre ++ l) (append_assoc (row_bytes r) (flat_map row_bytes rs) rest) ∙ sym (append_assoc pre (row_bytes r) (flat_map row_bytes rs ++ rest)) in
    let place : length pre + 12 * suc k ≡ length (pre ++ row_bytes r) + 12 * k =
    sym (ap (λ n. n + 12 * k) (length-append pre (row_bytes r)) ∙ omega arith) in
    ap (row_at bs) place ∙ rows_read rs bs (pre ++ row_bytes r) rest here fit.1 k d (omega arith)

-- the head's bytes and the row block's
abbrev pub head_bytes : Contents → List ℕ
head_bytes c = record_bytes (head c.points c.inlet c.outlet)

abbrev pub block_bytes : Contents → List ℕ
block_bytes c = record_bytes (rows c.reaches)

-- A byte string that is laid out as a scheme file is accepted, and means what it was laid out from.
module _ (bs : List ℕ) (c : Contents) (file : FileOf bs c) where
  laid_out : bs ≡ head_bytes c ++ (notes_bytes c.before ++ (block_bytes c ++ notes_bytes c.after))
  laid_out =
      file.laid
      ∙ ap (λ l. head_bytes c ++ l) (flat_map-append record_bytes (map note c.before) (rows c.reaches ∷ map note c.after))

  pub laid_block : bs ≡ front_bytes c ++ (block_bytes c ++ notes_bytes c.after)
  laid_block =
      laid_out ∙ sym (append_assoc (head_bytes c) (notes_bytes c.before) (block_bytes c ++ notes_bytes c.after))

  pub laid_found : block_of_rows bs ≡ Ok (length (front_bytes c))
  laid_found =
      let h = head c.points c.inlet c.outlet in
      let b = notes_bytes c.before in
      let a = notes_bytes c.after in
      let w1 = walked bs [] (b ++ (block_bytes c ++ a)) h laid_out file.short None refl refl (walking_none bs) in
      let w2 =
      notes_walked c.before bs (record_bytes h) (block_bytes c ++ a) None laid_out file.short (omega arith) w1 in
      let later : 0 < length (record_bytes h ++ b) = simp length-append (omega arith) in
      let w3 =
      walked bs (front_bytes c) a (rows c.reaches) laid_block file.short None (later_headed (length (front_bytes c)) 2 (length (flat_map row_bytes c.reaches)) later refl) (whole_rows c.reaches file.few) w2 in
      let laid-after : bs ≡ (front_bytes c ++ block_bytes c) ++ (a ++ []) =
      laid_block ∙ sym (append_assoc (front_bytes c) (block_bytes c) a)
      ∙ ap (λ l. (front_bytes c ++ block_bytes c) ++ l) (sym (append-nil a)) in
      let w4 =
      notes_walked c.after bs (front_bytes c ++ block_bytes c) [] (Some (length (front_bytes c))) laid-after file.short (simp length-append (omega arith)) w3 in
      let all : length bs ≤ length ((front_bytes c ++ block_bytes c) ++ a) =
      omega (arith, ap length (laid_block ∙ sym (append_assoc (front_bytes c) (block_bytes c) a))) in
      walking_all bs _ _ w4 file.short all

  pub laid_size : length_at bs (length (front_bytes c)) ≡ 12 * length c.reaches
  laid_size =
      length_here bs (front_bytes c) (notes_bytes c.after) (rows c.reaches) laid_block file.short
      ∙ length_rows_bytes c.reaches

  pub laid_count : length_at bs (length (front_bytes c)) / 12 ≡ length c.reaches
  laid_count =
      let size = length_here bs (front_bytes c) (notes_bytes c.after) (rows c.reaches) laid_block file.short in
      omega (arith, size, length_rows_bytes c.reaches)

  pub laid_rows : rows_at bs (length (front_bytes c) + 6) (length c.reaches) ≡ c.reaches
  laid_rows =
      let size = four (length (flat_map row_bytes c.reaches)) ++ two 2 in
      let here : bs ≡ (front_bytes c ++ size) ++ (flat_map row_bytes c.reaches ++ notes_bytes c.after) =
      laid_block ∙ sym (append_assoc (front_bytes c) size (flat_map row_bytes c.reaches ++ notes_bytes c.after)) in
      let place : length (front_bytes c ++ size) ≡ length (front_bytes c) + 6 = length-append (front_bytes c) size in
      same_lists _ _
      (length_rows bs (length (front_bytes c) + 6) (length c.reaches))
      (λ k d below.
      let within : k < length c.reaches =
      omega (arith, length_rows bs (length (front_bytes c) + 6) (length c.reaches)) in
      get_d_rows bs (length (front_bytes c) + 6) (length c.reaches) k d within
      ∙ ap (λ n. row_at bs (n + 12 * k)) (sym place)
      ∙ rows_read c.reaches bs (front_bytes c ++ size) (notes_bytes c.after) here file.rows_fit k d within)

  pub laid_scheme :
      scheme_at bs (length (front_bytes c) + 6) (length_at bs (length (front_bytes c)) / 12) ≡ contents_scheme c
  laid_scheme =
      scheme_of _ _ _ _ _ _ _ _
      (ap (λ b. two_at b 6) laid_out ∙ two_back c.points file.points_fit)
      (ap (λ b. two_at b 8) laid_out ∙ two_back c.inlet file.inlet_fits)
      (ap (λ b. two_at b 10) laid_out ∙ two_back c.outlet file.outlet_fits)
      (ap (rows_at bs (length (front_bytes c) + 6)) laid_count ∙ laid_rows)

  -- the row block lies behind the head and in the bytes
  pub laid_lies : (12 ≤ length (front_bytes c)) × (end_at bs (length (front_bytes c)) ≤ length bs)
  laid_lies =
      let size = length_here bs (front_bytes c) (notes_bytes c.after) (rows c.reaches) laid_block file.short in (
        simp length-append (omega arith),
        omega (arith, size, total bs (front_bytes c) (notes_bytes c.after) (rows c.reaches) laid_block file.short),
      )
