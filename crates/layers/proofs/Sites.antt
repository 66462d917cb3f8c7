-- What is read from a junction's list of reaches, by where the reach is kept.
use Rattle.std.proofs.Common.{◌≡◌, ℕ, zero, suc, ◌+◌, ◌-◌, ◌<◌, ◌≤◌, true, false, List, [], ◌∷◌, ◌++◌, length, Some, None, Option, refl, ap, ◌∙◌, ⊎_elim, arith}
use Rattle.std.specs.List.{slice_get}
use Rattle.std.specs.Option.{option_map}
use Rattle.std.proofs.lemmas.List.FromFn.{length-map-range_with_len, get_or-map-range_with_len}
use Rattle.std.proofs.lemmas.List.{length-map, length-append, get_or-append_right}
use Rattle.std.proofs.lemmas.Option.{slice_get-map, slice_get_past, slice_get-get_or}
use Rattle.std.proofs.lemmas.Bool.{cases_Bool, cases_lt, lt-ltb, le-ltb}
use Rattle.scheme.specs.declared.rows.Reach.{Reach}
use Rattle.scheme.specs.Scheme.{Scheme}
use Rattle.layers.specs.declared.gates.Gate.{Gate}
use Rattle.layers.specs.declared.gates.Site.{Site}
use Rattle.layers.specs.declared.gates.Site.TheVariants.{Below, At}
use Rattle.layers.specs.Junctions.{junction, carriable, gated, between, through, site_of, split, carried_reaches, gate_reaches}

pub nth_append_left : {X : Type 0} (xs ys : List X) (k : ℕ) → k < length xs → slice_get (xs ++ ys) k ≡ slice_get xs k
nth_append_left [] ys k within = absurd (omega arith)
nth_append_left (x ∷ xs) ys zero within = refl
nth_append_left (x ∷ xs) ys (suc k) within = nth_append_left xs ys k (omega arith)

module _ (s : Scheme) (gates : List Gate) where
  pub length_gated : length (gated s gates) ≡ length s.reaches + s.points
  length_gated =
      length-append (carried_reaches s) (gate_reaches s.points gates)
      ∙ omega (arith, length-map s.reaches (between s.points), length-map-range_with_len (through s.points gates) 0 s.points)

  gated_below : (k : ℕ) → k < length s.reaches → slice_get (gated s gates) k ≡ option_map (between s.points) (slice_get s.reaches k)
  gated_below k within =
      nth_append_left (carried_reaches s) (gate_reaches s.points gates) k
      (omega (arith, length-map s.reaches (between s.points)))
      ∙ slice_get-map (between s.points) s.reaches k

  pub gated_at : (v : ℕ) → v < s.points → slice_get (gated s gates) (length s.reaches + v) ≡ Some (through s.points gates v)
  gated_at v point =
      let k = length s.reaches + v in
      let gate = through s.points gates v in
      slice_get-get_or (gated s gates) k gate (omega (arith, length_gated))
      ∙ ap Some
      (get_or-append_right (carried_reaches s) (gate_reaches s.points gates) (length s.reaches) k gate
      (length-map s.reaches (between s.points)) (omega arith)
      ∙ get_or-map-range_with_len (through s.points gates) 0 s.points (k - length s.reaches) v gate (omega arith) (omega arith))

  -- the junction's parts, as they are on a register that it can stand on, and on any other

  pub junction_on : carriable s ≡ true → junction s gates ≡ split s gates
  junction_on on = rw on refl

  pub length_on : carriable s ≡ true → length (junction s gates).reaches ≡ length s.reaches + s.points
  length_on on = ap (λ t. length t.reaches) (junction_on on) ∙ length_gated

  -- what the place of a reach says of its number

  abbrev pub Placed : ℕ → Option Site → Type 0
  Placed k (Some Below) = (carriable s ≡ true) × (k < length s.reaches)
  Placed k (Some (At v)) = (carriable s ≡ true) × (k ≡ length s.reaches + v) × (v < s.points)
  Placed k None = length (junction s gates).reaches ≤ k

  placed_on : carriable s ≡ true → (k : ℕ) → Placed k (site_of s k)
  placed_on on k =
      ⊎_elim
      (λ (low : k < length s.reaches). rw (on, lt-ltb k (length s.reaches) low) (on, low))
      (λ (past : length s.reaches ≤ k).
      ⊎_elim
      (λ (point : k - length s.reaches < s.points).
      rw (on, le-ltb k (length s.reaches) past, lt-ltb (k - length s.reaches) s.points point) (on, omega arith, point))
      (λ (high : s.points ≤ k - length s.reaches).
      rw (on, le-ltb k (length s.reaches) past, le-ltb (k - length s.reaches) s.points high) (omega (arith, length_on on)))
      (cases_lt (k - length s.reaches) s.points))
      (cases_lt k (length s.reaches))

  pub placed : (k : ℕ) → Placed k (site_of s k)
  placed k =
      ⊎_elim (λ (on : carriable s ≡ true). placed_on on k)
      (λ (off : carriable s ≡ false). rw (off, off) (omega arith))
      (cases_Bool (carriable s))

  -- the reach that is kept at a place
  abbrev pub reach_at : ℕ → Option Site → Option Reach
  reach_at k (Some Below) = option_map (between s.points) (slice_get s.reaches k)
  reach_at k (Some (At v)) = Some (through s.points gates v)
  reach_at k None = None

  placed_read : (k : ℕ) (site : Option Site) → Placed k site → slice_get (junction s gates).reaches k ≡ reach_at k site
  placed_read k (Some Below) is = ap (λ t. slice_get t.reaches k) (junction_on is.0) ∙ gated_below k is.1
  placed_read k (Some (At v)) is =
      ap (λ t. slice_get t.reaches k) (junction_on is.0) ∙ ap (slice_get (gated s gates)) is.1 ∙ gated_at v is.2
  placed_read k None past = slice_get_past (junction s gates).reaches k past

  pub site_read : (k : ℕ) → slice_get (junction s gates).reaches k ≡ reach_at k (site_of s k)
  site_read k = placed_read k (site_of s k) (placed k)
