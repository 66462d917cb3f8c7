-- A byte string that a walk goes through to its end is cut by it into records, and is laid out from those.
use Rattle.std.proofs.Common.{◌≡◌, ℕ, zero, suc, ◌+◌, ◌*◌, ◌/◌, ◌%◌, ◌<◌, ◌≤◌, Bool, true, false, eqb, leb, List, [], ◌∷◌, ◌++◌, map, length, get_or, take, drop, Some, None, Ok, sym, refl, ap, ◌∙◌, subst, ⊎_elim, arith}
use Rattle.std.specs.List.{range_with_len, flat_map, AllByRecursion}
use Rattle.std.proofs.lemmas.Nat.{le_bytes_2, le_bytes_4}
use Rattle.std.proofs.lemmas.List.{append_assoc, drop_all, drop-drop, drop_more, length-drop, length-take-le, take-append-drop}
use Rattle.std.proofs.lemmas.Grind.{flat_map-append}
use Rattle.std.proofs.lemmas.Bool.{cases_Bool, cases_lt, cond-true, eqb-true, eqb-false, leb-true, le-leb, ne_eqb}
use Rattle.std.proofs.lemmas.Bool.Decides.{nat_tests}
use Rattle.scheme.specs.declared.rows.Reach.{Reach}
use Rattle.scheme_file.specs.Asked.{ask_record, walk, ending, rows_from, block_of_rows, end_at, length_at, kind_at}
use Rattle.scheme_file.specs.Layout.{FileRecord, head, rows, note, kind_of, body_of, row_bytes, record_bytes, Contents, FileOf, RowFits}
use Rattle.scheme_file.specs.Numbers.{two, four, two_at, four_at}
use Rattle.scheme_file.specs.Reading.{Bytes}
use Rattle.scheme_file.specs.Rows.{row_at, row_place, rows_at}
use Rattle.scheme_file.proofs.Laid.{notes_bytes, length_rows_bytes}
use Rattle.scheme_file.proofs.RowLists.{length_rows}
use Rattle.scheme_file.proofs.Walks.{no_second, taken, walk_on, walk_all, walks_on}

-- bytes are the digits of the number that they are read as
two_forth : (a b : ℕ) → a < 256 → b < 256 → two (a + b * 256) ≡ a ∷ b ∷ []
two_forth a b la lb = le_bytes_2 (a ∷ b ∷ []) _ refl (λ i. elim i as (λ k. get_or (a ∷ b ∷ []) k 0 < 256) [ zero ↦ la | suc zero ↦ lb | suc (suc k) ↦ omega arith ]) refl

four_forth :
    (a b c d : ℕ) → a < 256 → b < 256 → c < 256 → d < 256
    → four (a + b * 256 + c * 65536 + d * 16777216) ≡ a ∷ b ∷ c ∷ d ∷ []
four_forth a b c d la lb lc ld =
    le_bytes_4 (a ∷ b ∷ c ∷ d ∷ []) _ refl
    (λ i. elim i as (λ k. get_or (a ∷ b ∷ c ∷ d ∷ []) k 0 < 256) [ zero ↦ la | suc zero ↦ lb | suc (suc zero) ↦ lc | suc (suc (suc zero)) ↦ ld | suc (suc (suc (suc k))) ↦ omega arith ])
    refl

module _ (bs : List ℕ) (bytes : Bytes bs) where
  one_here : (p e : ℕ) → e ≡ p + 1 → e ≤ length bs → drop p bs ≡ get_or bs p 0 ∷ drop e bs
  one_here p e next within = drop_more bs p 0 (omega arith) ∙ ap (λ i. get_or bs p 0 ∷ drop i bs) (sym next)

  -- a number at a place, and the bytes behind it
  two_here : (p e : ℕ) → e ≡ p + 2 → e ≤ length bs → drop p bs ≡ two (two_at bs p) ++ drop e bs
  two_here p e next within =
      one_here p (p + 1) refl (omega arith)
      ∙ ap (λ l. get_or bs p 0 ∷ l) (one_here (p + 1) e (omega arith) within)
      ∙ ap (λ l. l ++ drop e bs) (sym (two_forth (get_or bs p 0) (get_or bs (p + 1) 0) (bytes p) (bytes (p + 1))))

  four_here : (p e : ℕ) → e ≡ p + 4 → e ≤ length bs → drop p bs ≡ four (four_at bs p) ++ drop e bs
  four_here p e next within =
      one_here p (p + 1) refl (omega arith)
      ∙ ap (λ l. get_or bs p 0 ∷ l) (one_here (p + 1) (p + 2) (omega arith) (omega arith))
      ∙ ap (λ l. get_or bs p 0 ∷ get_or bs (p + 1) 0 ∷ l) (one_here (p + 2) (p + 3) (omega arith) (omega arith))
      ∙ ap (λ l. get_or bs p 0 ∷ get_or bs (p + 1) 0 ∷ get_or bs (p + 2) 0 ∷ l) (one_here (p + 3) e (omega arith) within)
      ∙ ap
      (λ l. l ++ drop e bs)
      (sym (four_forth (get_or bs p 0) (get_or bs (p + 1) 0) (get_or bs (p + 2) 0) (get_or bs (p + 3) 0) (bytes p) (bytes (p + 1)) (bytes (p + 2)) (bytes (p + 3))))

  row_here : (p e : ℕ) → e ≡ p + 12 → e ≤ length bs → drop p bs ≡ row_bytes (row_at bs p) ++ drop e bs
  row_here p e next within =
      two_here p (p + 2) refl (omega arith)
      ∙ ap (λ l. two (two_at bs p) ++ l) (two_here (p + 2) (p + 4) (omega arith) (omega arith))
      ∙ ap (λ l. two (two_at bs p) ++ (two (two_at bs (p + 2)) ++ l)) (four_here (p + 4) (p + 8) (omega arith) (omega arith))
      ∙ ap (λ l. two (two_at bs p) ++ (two (two_at bs (p + 2)) ++ (four (four_at bs (p + 4)) ++ l))) (four_here (p + 8) e (omega arith) within)

  pub rows_from_lem :
      (q a n e : ℕ) → e ≡ q + 12 * (a + n) → e ≤ length bs
      → drop (q + 12 * a) bs ≡ flat_map row_bytes (map (λ k. row_at bs (row_place q k)) (range_with_len a n)) ++ drop e bs
  rows_from_lem q a zero e end within = ap (λ i. drop i bs) (omega arith)
  rows_from_lem q a (suc n) e end within =
      row_here (q + 12 * a) (q + 12 * (a + 1)) (omega arith) (omega arith)
      ∙ ap (λ l. row_bytes (row_at bs (row_place q a)) ++ l) (rows_from_lem q (a + 1) n e (omega arith) within)
      ∙ sym (append_assoc (row_bytes (row_at bs (row_place q a))) (flat_map row_bytes (map (λ k. row_at bs (row_place q k)) (range_with_len (a + 1) n))) (drop e bs))

  pub rows_fit : (q a n : ℕ) → AllByRecursion RowFits (map (λ k. row_at bs (row_place q k)) (range_with_len a n))
  rows_fit q a zero = tt
  rows_fit q a (suc n) =
      let p = q + 12 * a in (
        record {
          tail = omega (arith, bytes p, bytes (p + 1));
          head = omega (arith, bytes (p + 2), bytes (p + 2 + 1));
          limit = omega (arith, bytes (p + 4), bytes (p + 4 + 1), bytes (p + 4 + 2), bytes (p + 4 + 3));
          flow = omega (arith, bytes (p + 8), bytes (p + 8 + 1), bytes (p + 8 + 2), bytes (p + 8 + 3));
        },
        rows_fit q (a + 1) n,
      )

  -- a record whose length, kind and body stand at a place is laid there
  pub record_here :
      (at : ℕ) (r : FileRecord) → end_at bs at ≤ length bs → kind_at bs at ≡ kind_of r
      → length_at bs at ≡ length (body_of r) → drop (at + 6) bs ≡ body_of r ++ drop (end_at bs at) bs
      → drop at bs ≡ record_bytes r ++ drop (end_at bs at) bs
  record_here at r within kind size body =
      four_here at (at + 4) refl (omega arith)
      ∙ ap (λ l. four (four_at bs at) ++ l) (two_here (at + 4) (at + 6) (omega arith) (omega arith))
      ∙ ap (λ l. four (four_at bs at) ++ (two (two_at bs (at + 4)) ++ l)) body
      ∙ ap (λ n. four n ++ (two (two_at bs (at + 4)) ++ (body_of r ++ drop (end_at bs at) bs))) size
      ∙ ap (λ k. four (length (body_of r)) ++ (two k ++ (body_of r ++ drop (end_at bs at) bs))) kind

  note_at : ℕ → List ℕ
  note_at at = take (length_at bs at) (drop (at + 6) bs)

  note_here :
      (at : ℕ) → end_at bs at ≤ length bs → kind_at bs at ≡ 3
      → drop at bs ≡ record_bytes (note (note_at at)) ++ drop (end_at bs at) bs
  unfolding note_at
  note_here at within kind =
      record_here at (note (note_at at)) within kind
      (sym (length-take-le (length_at bs at) (drop (at + 6) bs) (simp length-drop (omega arith))))
      (sym (take-append-drop (length_at bs at) (drop (at + 6) bs)) ∙ ap (λ l. note_at at ++ l) (drop-drop (length_at bs at) (at + 6) bs))

  rows_here :
      (at : ℕ) → end_at bs at ≤ length bs → kind_at bs at ≡ 2 → length_at bs at % 12 ≡ 0
      → drop at bs ≡ record_bytes (rows (rows_at bs (at + 6) (length_at bs at / 12))) ++ drop (end_at bs at) bs
  rows_here at within kind whole =
      let n = length_at bs at / 12 in
      let size : 12 * n ≡ length_at bs at = omega arith in
      record_here at (rows (rows_at bs (at + 6) n)) within kind
      (sym size ∙ sym (length_rows_bytes (rows_at bs (at + 6) n) ∙ ap (λ m. 12 * m) (length_rows bs (at + 6) n)))
      (ap (λ i. drop i bs) (omega arith) ∙ rows_from_lem (at + 6) 0 n (end_at bs at) (omega arith) within)

  pub head_at :
      (at points inlet outlet : ℕ) → end_at bs at ≤ length bs → kind_at bs at ≡ 1 → length_at bs at ≡ 6
      → points ≡ two_at bs (at + 6) → inlet ≡ two_at bs (at + 6 + 2) → outlet ≡ two_at bs (at + 6 + 4)
      → drop at bs ≡ record_bytes (head points inlet outlet) ++ drop (end_at bs at) bs
  head_at at points inlet outlet within kind size en es et =
      record_here at (head points inlet outlet) within kind size
      (two_here (at + 6) (at + 6 + 2) refl (omega arith)
      ∙ ap (λ l. two (two_at bs (at + 6)) ++ l) (two_here (at + 6 + 2) (at + 6 + 4) (omega arith) (omega arith))
      ∙ ap (λ l. two (two_at bs (at + 6)) ++ (two (two_at bs (at + 6 + 2)) ++ l)) (two_here (at + 6 + 4) (end_at bs at) (omega arith) within)
      ∙ rw (en, es, et) refl)

  head_here :
      end_at bs 0 ≤ length bs → kind_at bs 0 ≡ 1 → length_at bs 0 ≡ 6
      → drop 0 bs ≡ record_bytes (head (two_at bs 6) (two_at bs 8) (two_at bs 10)) ++ drop (end_at bs 0) bs
  head_here within kind size = head_at 0 (two_at bs 6) (two_at bs 8) (two_at bs 10) within kind size refl refl refl

-- the kind that is left where a record passes
kind_note :
    (bs : List ℕ) (at : ℕ) (seen : Bool) → ask_record bs at seen ≡ None → (kind_at bs at ≡ 1 → ⊥)
    → (kind_at bs at ≡ 2 → ⊥) → kind_at bs at ≡ 3
kind_note bs at seen asked not-head not-rows = grind (arith, nat_tests)

ending_none : (at block : ℕ) → ending at None ≡ Ok block → ⊥
ending_none at block ends = let z : ◌≡◌ {A = ℕ} 0 1 = cc in omega arith

-- behind the row block there are notes alone
notes_after :
    (turns : ℕ) (bs : List ℕ) → Bytes bs → (at q block : ℕ) → 0 < at → length bs ≤ at + turns
    → walk turns bs at (Some q) ≡ Ok block → (notes : List (List ℕ)) × (drop at bs ≡ notes_bytes notes)
notes_after zero bs bytes at q block later enough ends = ([], drop_all at bs (omega arith))
notes_after (suc turns) bs bytes at q block later enough ends =
    ⊎_elim
    (λ within.
    let asked = walks_on turns bs at (Some q) block within ends in
    let t = taken bs at true asked in
    let not-rows : kind_at bs at ≡ 2 → ⊥ = no_second bs at asked in
    let kind = kind_note bs at true asked (t.later later) not-rows in
    let same : rows_from bs at (Some q) ≡ Some q = rw (ne_eqb (kind_at bs at) 2 not-rows) refl in
    let on : walk turns bs (end_at bs at) (Some q) ≡ Ok block =
    ap (walk turns bs (end_at bs at)) (sym same) ∙ sym (walk_on turns bs at (Some q) within asked) ∙ ends in
    let more = notes_after turns bs bytes (end_at bs at) q block (omega arith) (omega arith) on in
    (note_at bs bytes at ∷ more.0, note_here bs bytes at t.inside kind ∙ ap (λ l. record_bytes (note (note_at bs bytes at)) ++ l) more.1))
    (λ past. ([], drop_all at bs past))
    (cases_lt at (length bs))

-- what stands behind the head: notes, the row block and notes again
pub record Behind-head (bs : List ℕ) (at : ℕ) : Type 0 where
  pub before : List (List ℕ)
  pub reaches : List Reach
  pub after : List (List ℕ)
  pub few : length reaches ≤ 4096
  pub fit : AllByRecursion RowFits reaches
  pub laid : drop at bs ≡ notes_bytes before ++ (record_bytes (rows reaches) ++ notes_bytes after)

behind_head :
    (turns : ℕ) (bs : List ℕ) → Bytes bs → (at block : ℕ) → 0 < at → length bs ≤ at + turns
    → walk turns bs at None ≡ Ok block → Behind-head bs at
behind_head zero bs bytes at block later enough ends = absurd (ending_none at block ends)
behind_head (suc turns) bs bytes at block later enough ends =
    ⊎_elim
    (λ within.
    let asked = walks_on turns bs at None block within ends in
    let t = taken bs at false asked in
    let on = sym (walk_on turns bs at None within asked) ∙ ends in
    ⊎_elim
    (λ is.
    let kind = eqb-true (kind_at bs at) 2 is in
    let seen : rows_from bs at None ≡ Some at = rw is refl in
    let more =
    notes_after turns bs bytes (end_at bs at) at block (omega arith) (omega arith) (ap (walk turns bs (end_at bs at)) (sym seen) ∙ on) in
    record {
      before = [];
      reaches = rows_at bs (at + 6) (length_at bs at / 12);
      after = more.0;
      few = subst (λ n. n ≤ 4096) (sym (length_rows bs (at + 6) (length_at bs at / 12))) (t.few kind);
      fit = rows_fit bs bytes (at + 6) 0 (length_at bs at / 12);
      laid =
          rows_here bs bytes at t.inside kind (t.whole kind)
          ∙ ap (λ l. record_bytes (rows (rows_at bs (at + 6) (length_at bs at / 12))) ++ l) more.1;
    })
    (λ other.
    let not-rows = eqb-false (kind_at bs at) 2 other in
    let kind = kind_note bs at false asked (t.later later) not-rows in
    let same : rows_from bs at None ≡ None = rw other refl in
    let more =
    behind_head turns bs bytes (end_at bs at) block (omega arith) (omega arith) (ap (walk turns bs (end_at bs at)) (sym same) ∙ on) in
    let this = record_bytes (note (note_at bs bytes at)) in
    record {
      before = note_at bs bytes at ∷ more.before;
      reaches = more.reaches;
      after = more.after;
      few = more.few;
      fit = more.fit;
      laid =
          note_here bs bytes at t.inside kind
          ∙ ap (λ l. this ++ l) more.laid
          ∙ sym (append_assoc this (notes_bytes more.before) (record_bytes (rows more.reaches) ++ notes_bytes more.after));
    })
    (cases_Bool (eqb (kind_at bs at) 2)))
    (λ past. absurd (ending_none at block (sym (walk_all (suc turns) bs at None past) ∙ ends)))
    (cases_lt at (length bs))

-- a walk that goes from the start to a row block has a turn and a first byte
starts :
    (turns : ℕ) (bs : List ℕ) (block : ℕ) → length bs ≡ turns → walk turns bs 0 None ≡ Ok block
    → (t : ℕ) × (turns ≡ suc t)
starts zero bs block long ends = absurd (ending_none 0 block ends)
starts (suc turns) bs block long ends = (turns, refl)

pub contents : (bs : List ℕ) → Bytes bs → (block : ℕ) → block_of_rows bs ≡ Ok block → (c : Contents) × FileOf bs c
contents bs bytes block found =
    let short : length bs ≤ 65536 =
    ⊎_elim (λ is. leb-true (length bs) 65536 is) (λ long. absurd (let f = rw long at found in let z : ◌≡◌ {A = ℕ} 0 1 = cc in omega arith)) (cases_Bool (leb (length bs) 65536)) in
    let ends : walk (length bs) bs 0 None ≡ Ok block =
    sym (cond-true (leb (length bs) 65536) _ _ (le-leb (length bs) 65536 short)) ∙ found in
    let one = starts (length bs) bs block refl ends in
    let begun : walk (suc one.0) bs 0 None ≡ Ok block = ap (λ n. walk n bs 0 None) (sym one.1) ∙ ends in
    let within : 0 < length bs = omega (arith, one.1) in
    let asked = walks_on one.0 bs 0 None block within begun in
    let t = taken bs 0 false asked in
    let kind = (t.first refl).0 in
    let size = (t.first refl).1 in
    let same : rows_from bs 0 None ≡ None = rw (ne_eqb (kind_at bs 0) 2 (λ e. omega (arith, kind))) refl in
    let on : walk one.0 bs (end_at bs 0) None ≡ Ok block =
    ap (walk one.0 bs (end_at bs 0)) (sym same) ∙ sym (walk_on one.0 bs 0 None within asked) ∙ begun in
    let rest = behind_head one.0 bs bytes (end_at bs 0) block (omega arith) (omega (arith, one.1)) on in
    let first = head (two_at bs 6) (two_at bs 8) (two_at bs 10) in (
      record {
        points = two_at bs 6;
        inlet = two_at bs 8;
        outlet = two_at bs 10;
        before = rest.before;
        reaches = rest.reaches;
        after = rest.after;
      },
      record {
        laid =
            head_here bs bytes t.inside kind size
            ∙ ap (λ l. record_bytes first ++ l) (rest.laid ∙ sym (flat_map-append record_bytes (map note rest.before) (rows rest.reaches ∷ map note rest.after)));
        short = short;
        few = rest.few;
        points_fit = omega (arith, bytes 6, bytes 7);
        inlet_fits = omega (arith, bytes 8, bytes 9);
        outlet_fits = omega (arith, bytes 10, bytes 11);
        rows_fit = rest.fit;
      },
    )
