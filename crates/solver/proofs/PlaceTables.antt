-- The table of places tells which points are earlier in the order.
use Rattle.std.proofs.Common.{◌≡◌, ℕ, zero, suc, ◌+◌, ◌<◌, ◌≤◌, true, false, ◌||◌, eqb, ltb, List, [], ◌∷◌, ◌++◌, length, get_or, take, sym, ap, ◌∙◌, ⊎_elim, arith, refl, length-append}
use mathlib.Core.Path.{fun_ext}
use Rattle.std.proofs.lemmas.List.FromFn.{get_or-map-range_with_len, length-map-range_with_len}
use Rattle.std.proofs.lemmas.List.{get_or_at, get_or_past, take_all, take_at, take_more}
use Rattle.std.proofs.lemmas.Bool.{cases_Bool, cases_lt, cond-true, cond-false, ltb-true, ltb-false, lt-ltb, le-ltb, or_left}
use Rattle.scheme.specs.Bounds.{no_point}
use Rattle.scheme.specs.Flow.{among}
use Rattle.scheme.specs.Scheme.{Scheme}
use Rattle.flows.proofs.Orders.{among_last}
use Rattle.solver.specs.PushSteps.{earlier}
use Rattle.solver.specs.Work.{position, places}

position_from : (ws : List ℕ) (k u : ℕ) → k + length ws ≤ no_point → k ≤ position k ws u
position_from [] k u room = omega arith
position_from (w ∷ ws) k u room =
    ⊎_elim (λ hit. rw (cond-true (eqb w u) k (position (k + 1) ws u) hit) (omega arith))
    (λ miss. rw (cond-false (eqb w u) k (position (k + 1) ws u) miss) (omega (arith, position_from ws (k + 1) u (omega arith))))
    (cases_Bool (eqb w u))

-- the first i points are those with a position below i
position_below :
    (ws : List ℕ) (k i j u : ℕ) → k + i ≡ j → k + length ws ≤ no_point → i ≤ length ws
    → ltb (position k ws u) j ≡ among (take i ws) u
position_below [] k zero j u far room within = le-ltb no_point j (omega arith)
position_below [] k (suc i) j u far room within = absurd (omega arith)
position_below (w ∷ ws) k zero j u far room within =
    le-ltb (position k (w ∷ ws) u) j (omega (arith, position_from (w ∷ ws) k u room))
position_below (w ∷ ws) k (suc i) j u far room within =
    ⊎_elim
    (λ hit.
    ap (λ n. ltb n j) (cond-true (eqb w u) k (position (k + 1) ws u) hit) ∙ lt-ltb k j (omega arith)
    ∙ sym (or_left (eqb w u) (among (take i ws) u) hit))
    (λ miss.
    ap (λ n. ltb n j) (cond-false (eqb w u) k (position (k + 1) ws u) miss)
    ∙ position_below ws (k + 1) i j u (omega arith) (omega arith) (omega arith)
    ∙ sym (ap (λ b. b || among (take i ws) u) miss))
    (cases_Bool (eqb w u))

module _ (order : List ℕ) (i : ℕ) (short : length order ≤ no_point) (within : i < length order) where
  -- a point that comes once has the position at which it stands
  position_at : among (take i order) (get_or order i 0) ≡ false → position 0 order (get_or order i 0) ≡ i
  position_at once =
      let v = get_or order i 0 in
      let low = ltb-false (position 0 order v) i (position_below order 0 i i v (omega arith) (omega arith) (omega arith) ∙ once) in
      let last = ap (λ ws. among ws v) (take_more order i 0 within) ∙ among_last (take i order) v in
      let high = ltb-true (position 0 order v) (i + 1) (position_below order 0 (i + 1) (i + 1) v (omega arith) (omega arith) (omega arith) ∙ last) in
      omega arith

  stranger : (u : ℕ) → among order u ≡ false → among (take i order) u ≡ false
  stranger u far =
      let whole = ap (λ ws. among ws u) (take_all (length order) order (omega arith)) in
      let high = ltb-false (position 0 order u) (length order) (position_below order 0 (length order) (length order) u (omega arith) (omega arith) (omega arith) ∙ whole ∙ far) in
      sym (position_below order 0 i i u (omega arith) (omega arith) (omega arith)) ∙ le-ltb (position 0 order u) i (omega arith)

  pub earlier_points :
      (s : Scheme) → ((u : ℕ) → among order u ≡ true → u < s.points) → get_or order i 0 < s.points
      → among (take i order) (get_or order i 0) ≡ false → earlier (places s order) (get_or order i 0) ≡ among (take i order)
  earlier_points s points inside once = fun_ext at
    where
      placed : (u : ℕ) → u < s.points → get_or (places s order) u no_point ≡ position 0 order u
      placed u l = get_or-map-range_with_len (position 0 order) 0 s.points u u no_point l (omega arith)

      here : get_or (places s order) (get_or order i 0) no_point ≡ i
      here = placed (get_or order i 0) inside ∙ position_at once

      outside : (u : ℕ) → s.points ≤ u → among order u ≡ false
      outside u past = ⊎_elim (λ among. absurd (omega (arith, points u among))) (λ far. far) (cases_Bool (among order u))

      at : (u : ℕ) → earlier (places s order) (get_or order i 0) u ≡ among (take i order) u
      at u =
          ap (ltb (get_or (places s order) u no_point)) here
          ∙ ⊎_elim
          (λ (l : u < s.points).
          ap (λ n. ltb n i) (placed u l) ∙ position_below order 0 i i u (omega arith) (omega arith) (omega arith))
          (λ (past : s.points ≤ u).
          let long = length-map-range_with_len (position 0 order) 0 s.points in
          ap (λ n. ltb n i) (get_or_past (places s order) u no_point (omega (arith, long)))
          ∙ le-ltb no_point i (omega arith) ∙ sym (stranger u (outside u past)))
          (cases_lt u s.points)

-- the same where the order is known by the points before one and those after it
pub earlier_split :
    (s : Scheme) (order front later : List ℕ) (v : ℕ) → order ≡ front ++ v ∷ later → length order ≤ no_point
    → ((u : ℕ) → among order u ≡ true → u < s.points) → v < s.points → among front v ≡ false
    → earlier (places s order) v ≡ among front
earlier_split s order front later v is short points inside once =
    let n = length front in
    let at = ap (λ ws. get_or ws n 0) is ∙ get_or_at front v later 0 n refl in
    let taken = ap (take n) is ∙ take_at front (v ∷ later) n refl in
    rw (at, taken) at
    (earlier_points order n short (omega (arith, ap length is, length-append front (v ∷ later))) s points
    (rw at inside) (rw (at, taken) once))
