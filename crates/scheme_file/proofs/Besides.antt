-- The bytes besides limits and flows: what a write to a limit or a flow leaves, and what they determine.
use Rattle.std.proofs.Common.{◌≡◌, ℕ, zero, suc, ◌+◌, ◌-◌, ◌*◌, ◌<◌, ◌≤◌, ◌⊎◌, List, ◌++◌, length, get_or, take, drop, sym, refl, ap, ◌∙◌, inl, inr, ⊎_elim, arith}
use Rattle.std.specs.List.{range_with_len, flat_map}
use Rattle.std.proofs.lemmas.List.{append_cancel_left, get_or_default, get_or-drop, get_or-take, length-append, length-drop, length-take-le, same_lists, take_at, take_rest}
use Rattle.std.proofs.lemmas.Bool.{cases_order}
use Rattle.scheme_file.specs.Files.{besides, ends_bytes}
use Rattle.scheme_file.specs.Rows.{patched, row_place}
use Rattle.scheme_file.proofs.Patches.{length_patched, patched_above, patched_below}

-- two lists that are joined of parts of the same lengths have the same parts
same_parts : (a b c d : List ℕ) → length a ≡ length b → a ++ c ≡ b ++ d → (a ≡ b) × (c ≡ d)
same_parts a b c d long e =
    let front : a ≡ b = sym (take_at a c (length b) long) ∙ ap (take (length b)) e ∙ take_at b d (length b) refl in
    (front, append_cancel_left b c d (ap (λ l. l ++ c) (sym front) ∙ e))

-- a part of a byte string, and its length
abbrev part : ℕ → ℕ → List ℕ → List ℕ
part p n bs = take n (drop p bs)

length_part : (bs : List ℕ) (p n : ℕ) → p + n ≤ length bs → length (part p n bs) ≡ n
length_part bs p n within = length-take-le n (drop p bs) (simp length-drop (omega arith))

length_ends :
    (bs : List ℕ) (rows a n : ℕ) → rows + 12 * (a + n) ≤ length bs
    → length (flat_map (λ reach. part (row_place rows reach) 4 bs) (range_with_len a n)) ≡ 4 * n
length_ends bs rows a zero within = refl
length_ends bs rows a (suc n) within =
    length-append (part (row_place rows a) 4 bs) (flat_map (λ reach. part (row_place rows reach) 4 bs) (range_with_len (a + 1) n))
    ∙ omega (arith, length_part bs (row_place rows a) 4 (omega arith), length_ends bs rows (a + 1) n (omega arith))

-- The bytes before the rows and behind them are among those besides limits and flows.
module _ (bs cs : List ℕ) (rows count : ℕ) (level : length cs ≡ length bs) (lie : rows + 12 * count ≤ length bs)
    (same : besides cs rows count ≡ besides bs rows count) where
  front_and_rest :
      (take rows cs ≡ take rows bs) × (ends_bytes cs rows count ++ drop (rows + 12 * count) cs ≡ ends_bytes bs rows count ++ drop (rows + 12 * count) bs)
  front_and_rest =
      same_parts _ _ _ _ (length-take-le rows cs (omega arith) ∙ sym (length-take-le rows bs (omega arith))) same

  pub same_before : take rows cs ≡ take rows bs
  same_before = front_and_rest.0

  pub same_behind : drop (rows + 12 * count) cs ≡ drop (rows + 12 * count) bs
  same_behind =
      (same_parts _ _ _ _
      (length_ends cs rows 0 count (omega arith) ∙ sym (length_ends bs rows 0 count (omega arith)))
      front_and_rest.1).1

-- A part apart from the four bytes that a number is put into is as it was.
module _ (bs : List ℕ) (q x : ℕ) (holds : q + 4 ≤ length bs) where
  byte_apart : (k d : ℕ) → k < length bs → (k < q) ⊎ (q + 4 ≤ k) → get_or (patched bs q x) k d ≡ get_or bs k d
  byte_apart k d within apart =
      get_or_default (patched bs q x) k d 0 (omega (arith, length_patched bs q x holds))
      ∙ ⊎_elim (λ below. patched_below bs q x holds k below) (λ above. patched_above bs q x holds k above) apart
      ∙ get_or_default bs k 0 d within

  part_apart :
      (p n : ℕ) → p + n ≤ length bs → (p + n ≤ q) ⊎ (q + 4 ≤ p) → part p n (patched bs q x) ≡ part p n bs
  part_apart p n within apart =
      let long : length (part p n (patched bs q x)) ≡ n =
      length_part (patched bs q x) p n (omega (arith, length_patched bs q x holds)) in
      same_lists _ _
      (long ∙ sym (length_part bs p n within))
      (λ k d below.
      let inner : k < n = omega (arith, long) in
      get_or-take n (drop p (patched bs q x)) k d inner
      ∙ get_or-drop p (patched bs q x) k d
      ∙ byte_apart (p + k) d (omega arith) (⊎_elim (λ before. inl (omega arith)) (λ after. inr (omega arith)) apart)
      ∙ sym (get_or-take n (drop p bs) k d inner ∙ get_or-drop p bs k d))

  drop_apart : (p : ℕ) → p ≤ length bs → q + 4 ≤ p → drop p (patched bs q x) ≡ drop p bs
  drop_apart p within after =
      sym (take_rest (patched bs q x) p)
      ∙ ap (λ n. part p (n - p) (patched bs q x)) (length_patched bs q x holds)
      ∙ part_apart p (length bs - p) (omega arith) (inr after)
      ∙ take_rest bs p

-- A number put into a limit or a flow changes no byte besides.
module _ (bs : List ℕ) (rows count reach offset x : ℕ) (within : reach < count)
    (lie : rows + 12 * count ≤ length bs) (behind : 4 ≤ offset) (small : offset ≤ 8) where
  ends_apart :
      (k : ℕ) → k < count → part (row_place rows k) 4 (patched bs (row_place rows reach + offset) x) ≡ part (row_place rows k) 4 bs
  ends_apart k below =
      part_apart bs (row_place rows reach + offset) x (omega arith) (row_place rows k) 4 (omega arith)
      (⊎_elim (λ here. inl (omega arith)) (⊎_elim (λ before. inl (omega arith)) (λ later. inr (omega arith))) (cases_order k reach))

  ends_stay :
      (a n : ℕ) → a + n ≤ count
      → flat_map (λ k. part (row_place rows k) 4 (patched bs (row_place rows reach + offset) x)) (range_with_len a n)
      ≡ flat_map (λ k. part (row_place rows k) 4 bs) (range_with_len a n)
  ends_stay a zero few = refl
  ends_stay a (suc n) few =
      ap (λ l. l ++ flat_map (λ k. part (row_place rows k) 4 (patched bs (row_place rows reach + offset) x)) (range_with_len (a + 1) n)) (ends_apart a (omega arith))
      ∙ ap (λ l. part (row_place rows a) 4 bs ++ l) (ends_stay (a + 1) n (omega arith))

  pub besides_stay : besides (patched bs (row_place rows reach + offset) x) rows count ≡ besides bs rows count
  besides_stay =
      let q = row_place rows reach + offset in
      let holds : q + 4 ≤ length bs = omega arith in
      ap (λ l. l ++ (ends_bytes (patched bs q x) rows count ++ drop (rows + 12 * count) (patched bs q x)))
      (part_apart bs q x holds 0 rows (omega arith) (inl (omega arith)))
      ∙ ap (λ l. take rows bs ++ (l ++ drop (rows + 12 * count) (patched bs q x))) (ends_stay 0 count (omega arith))
      ∙ ap (λ l. take rows bs ++ (ends_bytes bs rows count ++ l)) (drop_apart bs q x holds (rows + 12 * count) lie (omega arith))
