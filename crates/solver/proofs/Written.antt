-- The tables as they are written, point by point.
use Rattle.std.proofs.Common.{◌≡◌, ℕ, ◌+◌, ◌-◌, ◌<◌, ◌≤◌, Bool, true, false, cond, eqb, ◌≢◌, List, [], ◌∷◌, ◌++◌, map, length, get_or, take, drop, replicate, set, sym, refl, ap, ◌∙◌, ⊎_elim, append_assoc, arith}
use mathlib.Core.Path.{fun_ext}
use Rattle.std.specs.List.{range_with_len}
use Rattle.std.proofs.lemmas.List.FromFn.{length-map-range_with_len, length-range_with_len, get_or-map-range_with_len, map-range_with_len_more}
use Rattle.std.proofs.lemmas.List.{length_push, length-set, drop_more, drop-drop, drop_at, set_at, set-append_left, take_at, get_or-set_same, get_or-set_other, ext_get_or}
use Rattle.std.proofs.lemmas.Bool.{cases_eq, eq-eqb, ne_eqb, or_parts}
use Rattle.std.proofs.lemmas.Simd.{splat_is_map}
use Rattle.scheme.specs.Scheme.{Scheme}
use Rattle.scheme.specs.Flow.{among}
use Rattle.solver.specs.Work.{written, position, places, supply}

-- ---- a table written from its start on

-- one entry more
pub written_more :
    (new old : List ℕ) (i x : ℕ) → i ≡ length new → i < length old
    → set (written new old) i x ≡ written (new ++ x ∷ []) old
written_more new old i x is within =
    let rest = drop_more old i 0 within in
    ap (λ n. set (new ++ drop n old) i x) (sym is) ∙ ap (λ ys. set (new ++ ys) i x) rest
    ∙ set_at new (get_or old i 0) (drop (i + 1) old) x i (sym is)
    ∙ sym (append_assoc new (x ∷ []) (drop (i + 1) old))
    ∙ ap (λ n. (new ++ x ∷ []) ++ drop n old) (ap (λ n. n + 1) is ∙ sym (length_push new x))

-- what was written before does not show where more is written
pub written_over : (less new old : List ℕ) → length less ≤ length new → written new (written less old) ≡ written new old
written_over less new old short =
    let m = length less in
    let d = length new - length less in
    let whole : length new ≡ m + d = omega arith in
    ap (λ n. new ++ drop n (written less old)) whole
    ∙ ap (λ ys. new ++ ys) (sym (drop-drop d m (written less old)) ∙ ap (drop d) (drop_at less (drop m old) m refl) ∙ drop-drop d m old)
    ∙ ap (λ n. new ++ drop n old) (sym whole)

-- a table filled from a function of the index, one entry more
pub filled_more :
    (f : ℕ → ℕ) (n x : ℕ) (old : List ℕ) → n < length old → x ≡ f n
    → set (written (map f (range_with_len 0 n)) old) n x ≡ written (map f (range_with_len 0 (n + 1))) old
filled_more f n x old within is =
    let filled = map f (range_with_len 0 n) in
    ap (set (written filled old) n) is ∙ written_more filled old n (f n) (sym (length-map-range_with_len f 0 n)) within
    ∙ ap (λ ps. written ps old) (sym (map-range_with_len_more f 0 n n (omega arith)))

-- a table filled with one number
pub replicated : (n x : ℕ) → replicate n x ≡ map (λ _. x) (range_with_len 0 n)
replicated n x = splat_is_map (range_with_len 0 n) n x (length-range_with_len 0 n)

-- with no gain nobody needs anything
pub needs_none : (s : Scheme) (n gain : ℕ) → n ≡ s.points → gain ≡ 0 → replicate n 0 ≡ supply s gain
needs_none s n gain all none =
    rw (all, none) (replicated s.points 0 ∙ ap (λ f. map f (range_with_len 0 s.points)) (fun_ext (λ v. same (eqb v s.inlet))))
  where
    same : (b : Bool) → ◌≡◌ {A = ℕ} 0 (cond b 0 0)
    same true = refl
    same false = refl

-- what stands at the start of a written table
pub written_start : (new old : List ℕ) → take (length new) (written new old) ≡ new
written_start new old = take_at new (drop (length new) old) (length new) refl

-- ---- the places

-- a point that comes after the others has the next position
position_last : (k : ℕ) (ws : List ℕ) (v : ℕ) → among ws v ≡ false → position k (ws ++ v ∷ []) v ≡ k + length ws
position_last k [] v out = rw (eq-eqb v v refl) (omega arith)
position_last k (w ∷ ws) v out =
    let apart = or_parts (eqb w v) (among ws v) out in
    let later = position_last (k + 1) ws v apart.1 in
    rw apart.0 (omega arith)

-- and the others keep theirs
position_kept : (k : ℕ) (ws : List ℕ) (v u : ℕ) → u ≢ v → position k (ws ++ v ∷ []) u ≡ position k ws u
position_kept k [] v u ne = rw (ne_eqb v u (λ e. ne (sym e))) refl
position_kept k (w ∷ ws) v u ne = ap (cond (eqb w u) k) (position_kept (k + 1) ws v u ne)

module _ (s : Scheme) (ws : List ℕ) (v i : ℕ) (is : i ≡ length ws) (below : v < s.points) (out : among ws v ≡ false) where
  places_more : set (places s ws) v i ≡ places s (ws ++ v ∷ [])
  places_more =
      let n = s.points in
      ext_get_or 0 _ _
      (length-set (places s ws) v i ∙ length-map-range_with_len (position 0 ws) 0 n ∙ sym (length-map-range_with_len (position 0 (ws ++ v ∷ [])) 0 n))
      (λ u l.
      let inside : u < n = omega (arith, length-set (places s ws) v i, length-map-range_with_len (position 0 ws) 0 n) in
      let after = get_or-map-range_with_len (position 0 (ws ++ v ∷ [])) 0 n u u 0 inside (omega arith) in
      ⊎_elim
      (λ (e : u ≡ v).
      let room : v < length (places s ws) = omega (arith, length-map-range_with_len (position 0 ws) 0 n) in
      ap (λ w. get_or (set (places s ws) v i) w 0) e ∙ get_or-set_same (places s ws) v i 0 room
      ∙ is ∙ omega (arith, position_last 0 ws v out) ∙ ap (position 0 (ws ++ v ∷ [])) (sym e) ∙ sym after)
      (λ (ne : u ≡ v → ⊥).
      get_or-set_other (places s ws) v u i 0 ne ∙ get_or-map-range_with_len (position 0 ws) 0 n u u 0 inside (omega arith)
      ∙ sym (position_kept 0 ws v u ne) ∙ sym after)
      (cases_eq u v))

  pub written_places :
      (old : List ℕ) → set (written (places s ws) old) v i ≡ written (places s (ws ++ v ∷ [])) old
  written_places old =
      let before = length-map-range_with_len (position 0 ws) 0 s.points in
      let after = length-map-range_with_len (position 0 (ws ++ v ∷ [])) 0 s.points in
      set-append_left (places s ws) (drop (length (places s ws)) old) v i (omega arith)
      ∙ ap (λ ps. ps ++ drop (length (places s ws)) old) places_more
      ∙ ap (λ n. places s (ws ++ v ∷ []) ++ drop n old) (before ∙ sym after)
