-- What a write does to a junction's list of reaches, by where the reach is kept.
use Rattle.std.proofs.Common.{◌≡◌, ℕ, ◌+◌, ◌-◌, ◌<◌, true, ◌&&◌, leb, List, ◌++◌, length, get_or, set, Some, None, Option, sym, refl, ap, ap₂, ◌∙◌, arith}
use Rattle.std.specs.List.{slice_get}
use Rattle.std.proofs.lemmas.List.FromFn.{fill_by_all, length-map-range_with_len, get_or-map-range_with_len}
use Rattle.std.proofs.lemmas.List.{length-map, length-set, set-append_left, set-append_right, get_or-set_same}
use Rattle.std.proofs.lemmas.Grind.{common_steps}
use Rattle.std.proofs.lemmas.Bool.Decides.{nat_tests}
use Rattle.std.proofs.lemmas.Bool.{and_parts, leb-true}
use Rattle.scheme.proofs.Writes.{changed_past, unlisted_past, unlisted_within}
use Rattle.scheme.specs.declared.faults.Layer.TheVariants.{Book}
use Rattle.scheme.specs.declared.rows.Reach.{Reach}
use Rattle.scheme.specs.declared.faults.Refusal.{Refusal}
use Rattle.scheme.specs.Refusals.{unlisted, refused}
use Rattle.scheme.specs.Scheme.{Scheme, changed, over}
use Rattle.layers.specs.declared.gates.Gate.{Gate}
use Rattle.layers.specs.declared.gates.Site.{Site}
use Rattle.layers.specs.declared.gates.Site.TheVariants.{Below, At}
use Rattle.layers.specs.Junctions.{by_site, site_of, below_written, gates_written, junction, carriable, gated, between, through, gate_reach, shut, split, carried_reaches, gate_reaches}
use Rattle.layers.proofs.Mapped.{changed_map}
use Rattle.layers.proofs.Sites.{Placed, placed, nth_append_left, gated_at, junction_on, length_on}

length_changed : (f : Reach → Reach) (rs : List Reach) (k : ℕ) → length (changed f rs k) ≡ length rs
length_changed f rs k =
    elim (slice_get rs k) as (λ o. length {A = Reach} (elim o [ None ↦ rs | Some r ↦ set rs k (f r) ]) ≡ length rs)
    [ None ↦ refl | Some r ↦ length-set rs k (f r) ]

changed_some : (f : Reach → Reach) (rs : List Reach) (k : ℕ) (r : Reach) → slice_get rs k ≡ Some r → changed f rs k ≡ set rs k (f r)
changed_some f rs k r here = rw (here, changed) refl

changed_append : (f : Reach → Reach) (xs ys : List Reach) (k : ℕ) → k < length xs → changed f (xs ++ ys) k ≡ changed f xs k ++ ys
changed_append f xs ys k within =
    rw (nth_append_left xs ys k within, changed)
    (elim (slice_get xs k) as
    (λ o. elim o [ None ↦ xs ++ ys | Some r ↦ set (xs ++ ys) k (f r) ] ≡ elim o [ None ↦ xs | Some r ↦ set xs k (f r) ] ++ ys)
    [ None ↦ refl | Some r ↦ set-append_left xs ys k (f r) within ])

-- the gates with one of them changed, as reaches
set_through : (n : ℕ) (gates : List Gate) (v : ℕ) (gate : Gate) → v < n → set (gate_reaches n gates) v (through n (set gates v gate) v) ≡ gate_reaches n (set gates v gate)
set_through n gates v gate point =
    let old = gate_reaches n gates in
    let new = set gates v gate in
    let this = through n (set gates v gate) v in
    let many : length (gate_reaches n gates) ≡ n = length-map-range_with_len (through n gates) 0 n in
    fill_by_all (through n new) (set old v this) n this (length-set old v this ∙ many)
    (λ k below. grind (arith, nat_tests, common_steps, get_or-map-range_with_len (through n gates) 0 n k k this below))

module _ (s : Scheme) (gates : List Gate) (on : carriable s ≡ true) (f : Reach → Reach) where
  -- a reach below changed
  written_below : ((r : Reach) → f (between s.points r) ≡ between s.points (f r)) → (k : ℕ) → k < length s.reaches → junction (over s (changed f s.reaches k)) gates ≡ over (junction s gates) (changed f (junction s gates).reaches k)
  written_below alike k within =
      let n = s.points in
      let rs = s.reaches in
      let own = gate_reaches n gates in
      let still : carriable (over s (changed f rs k)) ≡ true
      = ap (λ m. leb n 256 && leb m 8192) (length_changed f rs k) ∙ on in
      junction_on (over s (changed f rs k)) gates still
      ∙ ap (over (split s gates))
      (ap (λ xs. xs ++ own) (sym (changed_map f (between n) alike rs k))
      ∙ sym (changed_append f (carried_reaches s) own k (omega (arith, length-map rs (between n)))))
      ∙ ap (λ t. over t (changed f t.reaches k)) (sym (junction_on s gates on))

  -- a gate changed
  written_at : (v : ℕ) (gate : Gate) → v < s.points → v < length gates → f (through s.points gates v) ≡ gate_reach s.points v gate → junction s (set gates v gate) ≡ over (junction s gates) (changed f (junction s gates).reaches (length s.reaches + v))
  written_at v gate point listed changes =
      let n = s.points in
      let rs = s.reaches in
      let low = carried_reaches s in
      let own = gate_reaches n gates in
      let k = length rs + v in
      let this : f (through n gates v) ≡ through n (set gates v gate) v
      = changes ∙ ap (gate_reach n v) (sym (get_or-set_same gates v gate shut listed)) in
      junction_on s (set gates v gate) on
      ∙ ap (over (split s gates))
      (ap (λ xs. low ++ xs) (sym (set_through n gates v gate point) ∙ ap (set own v) (sym this))
      ∙ ap (λ i. low ++ set own i (f (through n gates v))) {x = v} {y = k - length rs} (omega arith)
      ∙ sym (set-append_right low own (length rs) k (f (through n gates v)) (length-map rs (between n)) (omega arith))
      ∙ sym (changed_some f (gated s gates) k (through n gates v) (gated_at s gates v point)))
      ∙ ap (λ t. over t (changed f t.reaches k)) (sym (junction_on s gates on))

module _ (s : Scheme) (gates : List Gate) (k : ℕ) where
  -- a write is refused where the reach is at no place
  abbrev pub refused_at : Option Site → Option Refusal
  refused_at (Some site) = None
  refused_at None = Some (refused Book 11 k)

  placed_refused : (site : Option Site) → Placed s gates k site → unlisted (junction s gates) k ≡ refused_at site
  placed_refused (Some Below) is =
      unlisted_within (junction s gates) k (omega (arith, is.1, length_on s gates is.0))
  placed_refused (Some (At v)) is =
      unlisted_within (junction s gates) k (omega (arith, is.1, is.2, length_on s gates is.0))
  placed_refused None past = unlisted_past (junction s gates) k past

  pub site_refused : unlisted (junction s gates) k ≡ refused_at (site_of s k)
  site_refused = placed_refused (site_of s k) (placed s gates k)

-- A write to register or gate, wherever the reach is kept, is the same write to what the junction means.
module _ (s : Scheme) (gates : List Gate) (k : ℕ) (all : length gates ≡ 256) (f : Reach → Reach) (write : Gate → Gate) (below-alike : (r : Reach) → f (between s.points r) ≡ between s.points (f r)) (gate-alike : (v : ℕ) (gate : Gate) → f (gate_reach s.points v gate) ≡ gate_reach s.points v (write gate)) where
  abbrev written : Scheme
  written = over (junction s gates) (changed f (junction s gates).reaches k)

  placed_written : (site : Option Site) → Placed s gates k site → junction (by_site (over s (changed f s.reaches k)) (λ v. s) s site) (by_site gates (λ v. set gates v (write (get_or gates v shut))) gates site) ≡ written
  placed_written (Some Below) is = written_below s gates is.0 f below-alike k is.1
  placed_written (Some (At v)) is =
      let few = leb-true s.points 256 (and_parts (leb s.points 256) (leb (length s.reaches) 8192) is.0).0 in
      written_at s gates is.0 f v (write (get_or gates v shut)) is.2 (omega (arith, is.2)) (gate-alike v (get_or gates v shut))
      ∙ ap (λ i. over (junction s gates) (changed f (junction s gates).reaches i)) (sym is.1)
  placed_written None past = ap (over (junction s gates)) (sym (changed_past f (junction s gates).reaches k past))

  pub site_written : (t : Scheme) (after : List Gate) → t ≡ below_written (λ u. over u (changed f u.reaches k)) s k → after ≡ gates_written write s gates k → junction t after ≡ over (junction s gates) (changed f (junction s gates).reaches k)
  site_written t after below own = ap₂ junction below own ∙ placed_written (site_of s k) (placed s gates k)
