-- Four bytes of a file replaced by a number.
use Rattle.std.proofs.Common.{◌≡◌, ℕ, zero, suc, ◌+◌, ◌-◌, ◌/◌, ◌%◌, ◌^◌, ◌<◌, ◌≤◌, ◌⊎◌, List, ◌++◌, length, get_or, take, sym, refl, ap, ◌∙◌, subst, inl, inr, ⊎_elim, add-zero, arith, rules}
use borrow.Rule.Slice.PartMut.{put_mid}
use Rattle.std.proofs.lemmas.Nat.{from_le_bytes-to_le_bytes_4, mod_below}
use Rattle.std.proofs.lemmas.List.{places, length-append, length-take, length-drop, drop-drop}
use Rattle.scheme_file.specs.Numbers.{four, two_at, four_at}
use Rattle.std.proofs.lemmas.Bool.{cases_lt}
use Rattle.scheme_file.specs.Reading.{Bytes}
use Rattle.scheme_file.specs.Rows.{patched}

-- a number of four bytes read back
pub four_back : (x : ℕ) → x < 2 ^ 32 → four_at (four x) 0 ≡ x
four_back x fits = from_le_bytes-to_le_bytes_4 x fits

four_bytes : (x k : ℕ) → get_or (four x) k 0 < 256
four_bytes x zero = mod_below x 256 (omega arith)
four_bytes x (suc zero) = mod_below (x / 256) 256 (omega arith)
four_bytes x (suc (suc zero)) = mod_below (x / 65536) 256 (omega arith)
four_bytes x (suc (suc (suc zero))) = mod_below (x / 16777216) 256 (omega arith)
four_bytes x (suc (suc (suc (suc k)))) = omega arith

module _ (bs : List ℕ) (p x : ℕ) (holds : p + 4 ≤ length bs) where
  pub length_patched : length (patched bs p x) ≡ length bs
  length_patched = simp (length-append, length-take, length-drop) (omega arith)

  pub patched_below : (k : ℕ) → k < p → get_or (patched bs p x) k 0 ≡ get_or bs k 0
  patched_below k below = search (rules, places)

  pub patched_above : (k : ℕ) → p + 4 ≤ k → get_or (patched bs p x) k 0 ≡ get_or bs k 0
  patched_above k above = search (rules, places)

  pub patched_in : (k : ℕ) → k < 4 → get_or (patched bs p x) (p + k) 0 ≡ get_or (four x) k 0
  patched_in k inner = search (rules, places)

  pub patched_bytes : Bytes bs → Bytes (patched bs p x)
  patched_bytes bytes k =
      ⊎_elim
      (λ below. subst (λ b. b < 256) (sym (patched_below k below)) (bytes k))
      (λ from.
      ⊎_elim
      (λ inner.
      let place : p + (k - p) ≡ k = omega arith in
      subst (λ b. b < 256) (sym (ap (λ i. get_or (patched bs p x) i 0) (sym place) ∙ patched_in (k - p) (omega arith))) (four_bytes x (k - p)))
      (λ above. subst (λ b. b < 256) (sym (patched_above k above)) (bytes k))
      (cases_lt k (p + 4)))
      (cases_lt k p)

  module _ (q : ℕ) where
    -- numbers that lie apart from the four bytes are read as before
    pub two_at_patched : (q + 2 ≤ p) ⊎ (p + 4 ≤ q) → two_at (patched bs p x) q ≡ two_at bs q
    two_at_patched (inl before) = rw (patched_below q (omega arith), patched_below (q + 1) (omega arith)) refl
    two_at_patched (inr after) = rw (patched_above q (omega arith), patched_above (q + 1) (omega arith)) refl

    pub four_at_patched : (q + 4 ≤ p) ⊎ (p + 4 ≤ q) → four_at (patched bs p x) q ≡ four_at bs q
    four_at_patched (inl before) =
        rw (
          patched_below q (omega arith),
          patched_below (q + 1) (omega arith),
          patched_below (q + 2) (omega arith),
          patched_below (q + 3) (omega arith),
        )
        refl
    four_at_patched (inr after) =
        rw (
          patched_above q (omega arith),
          patched_above (q + 1) (omega arith),
          patched_above (q + 2) (omega arith),
          patched_above (q + 3) (omega arith),
        )
        refl

  pub four_at_patched_here : x < 2 ^ 32 → four_at (patched bs p x) p ≡ x
  four_at_patched_here fits =
      let first : get_or (patched bs p x) p 0 ≡ x % 256 =
      ap (λ k. get_or (patched bs p x) k 0) (sym (add-zero p)) ∙ patched_in 0 (omega arith) in
      rw (first, patched_in 1 (omega arith), patched_in 2 (omega arith), patched_in 3 (omega arith)) (four_back x fits)

-- what is left of a slice after a write to a part of it
pub patched_part :
    (bs : List ℕ) (p e x : ℕ) (ys : List ℕ) → e ≡ p + 4 → ys ≡ four x → put_mid p (e - p) bs ys ≡ patched bs p x
patched_part bs p e x ys end is =
    let size : e - p ≡ 4 = omega arith in
    rw (size, is) (ap (λ tail. take p bs ++ (four x ++ tail)) (drop-drop 4 p bs))
