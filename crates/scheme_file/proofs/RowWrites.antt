-- A number written into a row: just that field of just that row changes.
use Rattle.std.proofs.Common.{◌≡◌, ℕ, ◌+◌, ◌*◌, ◌^◌, ◌<◌, ◌≤◌, ◌⊎◌, List, length, get_or, set, sym, refl, ◌∙◌, inl, inr, ⊎_elim, arith}
use Rattle.std.proofs.lemmas.List.{same_lists, length-set, get_or-set_same, get_or-set_other}
use Rattle.std.proofs.lemmas.Bool.{cases_order}
use Rattle.scheme.specs.declared.rows.Reach.{Reach}
use Rattle.scheme.specs.Scheme.{changed, over, limited, flowing}
use Rattle.scheme.proofs.Writes.{changed_at}
use Rattle.scheme_file.specs.Rows.{row_at, row_place, rows_at, scheme_at, patched}
use Rattle.scheme_file.proofs.Patches.{two_at_patched, four_at_patched, four_at_patched_here}
use Rattle.scheme_file.proofs.RowLists.{length_rows, get_d_rows}

-- a field of four bytes: where it begins in a row, and what a write to it does to the reach
pub record Field : Type 0 where
  pub offset : ℕ
  pub edit : ℕ → Reach → Reach
  pub past_ends : 4 ≤ offset
  pub small : offset ≤ 8
  pub here :
      (bs : List ℕ) (p x : ℕ) → p + 12 ≤ length bs → x < 2 ^ 32
      → row_at (patched bs (p + offset) x) p ≡ edit x (row_at bs p)

pub reach_of :
    (t t' h h' l l' f f' : ℕ) → t ≡ t' → h ≡ h' → l ≡ l' → f ≡ f'
    → ◌≡◌ {A = Reach} (record { tail = t; head = h; limit = l; flow = f }) (record { tail = t'; head = h'; limit = l'; flow = f' })
reach_of t t' h h' l l' f f' et eh el ef = cc

abbrev pub limit_field : Field
limit_field =
    record {
      offset = 4;
      edit = limited;
      past_ends = omega arith;
      small = omega arith;
      here =
          λ bs p x holds fits.
          reach_of _ _ _ _ _ _ _ _
          (two_at_patched bs (p + 4) x (omega arith) p (inl (omega arith)))
          (two_at_patched bs (p + 4) x (omega arith) (p + 2) (inl (omega arith)))
          (four_at_patched_here bs (p + 4) x (omega arith) fits)
          (four_at_patched bs (p + 4) x (omega arith) (p + 8) (inr (omega arith)));
    }

abbrev pub flow_field : Field
flow_field =
    record {
      offset = 8;
      edit = flowing;
      past_ends = omega arith;
      small = omega arith;
      here =
          λ bs p x holds fits.
          reach_of _ _ _ _ _ _ _ _
          (two_at_patched bs (p + 8) x (omega arith) p (inl (omega arith)))
          (two_at_patched bs (p + 8) x (omega arith) (p + 2) (inl (omega arith)))
          (four_at_patched bs (p + 8) x (omega arith) (p + 4) (inl (omega arith)))
          (four_at_patched_here bs (p + 8) x (omega arith) fits);
    }

-- a row apart from the four bytes is as it was
row_apart :
    (bs : List ℕ) (q x p : ℕ) → q + 4 ≤ length bs → (p + 12 ≤ q) ⊎ (q + 4 ≤ p) → row_at (patched bs q x) p ≡ row_at bs p
row_apart bs q x p holds (inl before) =
    reach_of _ _ _ _ _ _ _ _
    (two_at_patched bs q x holds p (inl (omega arith)))
    (two_at_patched bs q x holds (p + 2) (inl (omega arith)))
    (four_at_patched bs q x holds (p + 4) (inl (omega arith)))
    (four_at_patched bs q x holds (p + 8) (inl (omega arith)))
row_apart bs q x p holds (inr after) =
    reach_of _ _ _ _ _ _ _ _
    (two_at_patched bs q x holds p (inr (omega arith)))
    (two_at_patched bs q x holds (p + 2) (inr (omega arith)))
    (four_at_patched bs q x holds (p + 4) (inr (omega arith)))
    (four_at_patched bs q x holds (p + 8) (inr (omega arith)))

module _ (field : Field) (bs : List ℕ) (p count reach x : ℕ) (within : reach < count)
    (holds : p + 12 * count ≤ length bs) (fits : x < 2 ^ 32) where
  after : List ℕ
  after = patched bs (row_place p reach + field.offset) x

  row_after :
      (k : ℕ) (d : Reach) → k < count
      → get_or (rows_at after p count) k d ≡ get_or (set (rows_at bs p count) reach (field.edit x (row_at bs (row_place p reach)))) k d
  unfolding after
  row_after k d below =
      ⊎_elim
      (λ same. rw same
      (get_d_rows after p count reach d within
      ∙ field.here bs (row_place p reach) x (omega arith) fits
      ∙ sym (get_or-set_same (rows_at bs p count) reach _ d (omega (arith, length_rows bs p count)))))
      (λ apart.
      get_d_rows after p count k d below
      ∙ row_apart bs (row_place p reach + field.offset) x (row_place p k) (omega (arith, field.small)) (⊎_elim (λ lt. inl (omega arith)) (λ gt. inr (omega (arith, field.small))) apart)
      ∙ sym (get_d_rows bs p count k d below)
      ∙ sym (get_or-set_other (rows_at bs p count) reach k _ d (⊎_elim (λ lt e. omega arith) (λ gt e. omega arith) apart)))
      (cases_order k reach)

  pub rows_after :
      rows_at (patched bs (row_place p reach + field.offset) x) p count ≡ changed (field.edit x) (rows_at bs p count) reach
  unfolding after
  rows_after =
      same_lists _ _
      (length_rows _ p count ∙ sym (length-set (rows_at bs p count) reach _ ∙ length_rows bs p count))
      (λ k d below. row_after k d (omega (arith, length_rows (patched bs (row_place p reach + field.offset) x) p count)))
      ∙ sym
      (changed_at (field.edit x) (rows_at bs p count) reach (row_at bs (row_place p reach)) (omega (arith, length_rows bs p count))
      (sym (get_d_rows bs p count reach _ within)))

  pub scheme_after :
      12 ≤ p
      → scheme_at (patched bs (row_place p reach + field.offset) x) p count ≡ over (scheme_at bs p count) (changed (field.edit x) (rows_at bs p count) reach)
  scheme_after past =
      let q = row_place p reach + field.offset in
      let inside : q + 4 ≤ length bs = omega (arith, field.small) in
      rw (
        two_at_patched bs q x inside 6 (inl (omega arith)),
        two_at_patched bs q x inside 8 (inl (omega arith)),
        two_at_patched bs q x inside 10 (inl (omega arith)),
        rows_after,
      )
      refl
