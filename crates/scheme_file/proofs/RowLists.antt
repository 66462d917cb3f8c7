-- The rows that stand in a file's bytes, as a list.
use Rattle.std.proofs.Common.{◌≡◌, ℕ, ◌<◌, ◌≤◌, List, length, get_or, Some, None, ap, ◌∙◌, arith}
use Rattle.std.specs.List.{slice_get}
use Rattle.std.proofs.lemmas.List.FromFn.{length-map-range_with_len, get_or-map-range_with_len}
use Rattle.std.proofs.lemmas.Option.{slice_get_past, slice_get-get_or}
use Rattle.scheme.specs.declared.rows.Reach.{Reach}
use Rattle.scheme_file.specs.Rows.{row_at, row_place, rows_at}

module _ (bs : List ℕ) (p count : ℕ) where
  pub length_rows : length (rows_at bs p count) ≡ count
  length_rows = length-map-range_with_len (λ reach. row_at bs (row_place p reach)) 0 count

  pub get_d_rows :
      (reach : ℕ) (d : Reach) → reach < count → get_or (rows_at bs p count) reach d ≡ row_at bs (row_place p reach)
  get_d_rows reach d within =
      get_or-map-range_with_len (λ k. row_at bs (row_place p k)) 0 count reach reach d within (omega arith)

  pub nth_rows : (reach : ℕ) → reach < count → slice_get (rows_at bs p count) reach ≡ Some (row_at bs (row_place p reach))
  nth_rows reach within =
      slice_get-get_or (rows_at bs p count) reach (row_at bs 0) (omega (arith, length_rows)) ∙ ap Some (get_d_rows reach (row_at bs 0) within)

  pub nth_rows_past : (reach : ℕ) → count ≤ reach → slice_get (rows_at bs p count) reach ≡ None
  nth_rows_past reach past = slice_get_past (rows_at bs p count) reach (omega (arith, length_rows))
