-- What is read behind a place of a file.
use Rattle.std.proofs.Common.{◌≡◌, ℕ, ◌+◌, ◌-◌, ◌<◌, ◌≤◌, List, length, get_or, take, drop, Some, None, Option, ap, ◌∙◌, arith, ⊎_elim, Bor, MatchOption}
use Rattle.std.specs.Slice.{IsGetRangeResult}
use Rattle.std.proofs.lemmas.List.{drop-drop, get_or-drop, length-drop, take_all}
use Rattle.scheme_file.specs.Asked.{kind_at, length_at}
use Rattle.scheme_file.specs.Numbers.{two_at, four_at}

module _ (bs : List ℕ) (at : ℕ) where
  pub rest_is : take (length bs - at) (drop at bs) ≡ drop at bs
  rest_is = take_all (length bs - at) (drop at bs) (simp length-drop (omega arith))

  here : (k : ℕ) → get_or (take (length bs - at) (drop at bs)) k 0 ≡ get_or bs (at + k) 0
  here k = ap (λ l. get_or l k 0) rest_is ∙ get_or-drop at bs k 0

  pub size_behind : four_at (take (length bs - at) (drop at bs)) 0 ≡ length_at bs at
  size_behind = rw (here 0, here 1, here 2, here 3) (grind arith)

  pub kind_behind : two_at (take (length bs - at) (drop at bs)) 4 ≡ kind_at bs at
  kind_behind = rw (here 4, here 5) (grind arith)

  pub header_behind :
      (rest : List ℕ) (r : Option (Bor (List ℕ))) → rest ≡ drop at bs → at < length bs → IsGetRangeResult rest 6 (length rest) r
      → MatchOption r (length bs < at + 6) (λ x. (at + 6 ≤ length bs) × (x.now ≡ drop (at + 6) bs))
  header_behind rest None is within found =
      let long : length rest ≡ length bs - at = ap length is ∙ length-drop at bs in
      ⊎_elim (λ short. omega arith) (λ other. absurd (omega arith)) found.0
  header_behind rest (Some x) is within found =
      let long : length rest ≡ length bs - at = ap length is ∙ length-drop at bs in (
        omega (arith, found.0.0),
        found.0.2
            ∙ take_all (length rest - 6) (drop 6 rest) (simp length-drop (omega arith))
            ∙ ap (drop 6) is
            ∙ drop-drop 6 at bs,
      )
