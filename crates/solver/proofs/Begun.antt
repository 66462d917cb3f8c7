-- An ordering from its first point on: what the tables held before the inlet was entered shows through.
use Rattle.std.proofs.Common.{◌≡◌, ℕ, ◌≤◌, List, [], ◌∷◌, map, length, replicate, set, sym, refl, ap, ◌∙◌, arith}
use Rattle.std.specs.List.{range_with_len}
use Rattle.std.proofs.lemmas.List.FromFn.{length-map-range_with_len}
use Rattle.scheme.specs.Bounds.{no_point}
use Rattle.scheme.specs.Scheme.{Scheme}
use Rattle.scheme.specs.Flow.{among}
use Rattle.scheme.specs.Questions.{WellFormed}
use Rattle.pick.specs.Keys.{Keys}
use Rattle.flows.proofs.Fits.{orders_fit}
use Rattle.solver.specs.Orders.{OrderingMade, OrderBegun}
use Rattle.solver.specs.Raises.{HoldsKeys}
use Rattle.solver.specs.Work.{written, position, places}
use Rattle.solver.proofs.Written.{replicated, written_more, written_over, written_places}

-- what was written is there
written_stays : (new old now : List ℕ) → now ≡ written new old → now ≡ written new now
written_stays new old now is = is ∙ sym (written_over new new old (omega arith)) ∙ ap (written new) (sym is)

module _ (s : Scheme) (o p o' p' : List ℕ) (v n : ℕ) (cleared : List ℕ) (formed : WellFormed s)
    (room : s.points ≤ length o) (is-inlet : v ≡ s.inlet) (is-points : n ≡ s.points)
    (clears : cleared ≡ written (replicate n no_point) p) (listed : o' ≡ set o 0 v) (placed : p' ≡ set cleared v 0) where
  order_first : o' ≡ written (s.inlet ∷ []) o
  order_first = listed ∙ ap (set o 0) is-inlet ∙ written_more [] o 0 s.inlet refl (omega (arith, formed.some_points))

  place_first : p' ≡ written (places s (s.inlet ∷ [])) p
  place_first =
      placed ∙ ap (λ w. set cleared w 0) is-inlet ∙ ap (λ t. set t s.inlet 0) (clears ∙ ap (λ ps. written ps p) (replicated n no_point))
      ∙ ap (λ m. set (written (map (position 0 []) (range_with_len 0 m)) p) s.inlet 0) is-points
      ∙ written_places s [] s.inlet 0 refl formed.inlet_point refl p

  pub order_begun : (ks : Keys) → HoldsKeys s (among []) (among (s.inlet ∷ [])) ks → OrderBegun s o' p' ks
  order_begun ks held =
      record {
        order_table = written_stays (s.inlet ∷ []) o o' order_first;
        place_table = written_stays (places s (s.inlet ∷ [])) p p' place_first;
        held = held;
      }

  pub made_from_start :
      (gain count : ℕ) (o'' p'' : List ℕ) → OrderingMade s o' p' gain count o'' p''
      → OrderingMade s o p gain count o'' p''
  made_from_start gain count o'' p'' done =
      let fits = orders_fit s done.order done.keys gain formed done.made in
      let some : 1 ≤ length done.order = omega (arith, ap length fits.starts) in
      let first = length-map-range_with_len (position 0 (s.inlet ∷ [])) 0 s.points in
      let all = length-map-range_with_len (position 0 done.order) 0 s.points in
      record {
        order = done.order;
        keys = done.keys;
        made = done.made;
        told = done.told;
        order_table =
            done.order_table ∙ ap (written done.order) order_first ∙ written_over (s.inlet ∷ []) done.order o some;
        place_table =
            done.place_table ∙ ap (written (places s done.order)) place_first
            ∙ written_over (places s (s.inlet ∷ [])) (places s done.order) p (omega arith);
      }
