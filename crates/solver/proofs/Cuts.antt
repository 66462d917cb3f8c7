-- What cut writes and tells: the marks read off the table of places, their capacity, the tables, and its refusals.
use Rattle.std.proofs.Common.{◌≡◌, ℕ, ◌+◌, ◌<◌, ◌≤◌, Bool, true, false, cond, not, eqb, List, [], ◌∷◌, map, length, get_or, drop, replicate, Err, sym, refl, ap, ◌∙◌, subst, ⊎_elim, arith}
use Rattle.std.specs.List.{range_with_len}
use Rattle.std.proofs.lemmas.List.FromFn.{length-map-range_with_len, get_or-map-range_with_len, fill_by_all}
use Rattle.std.proofs.lemmas.List.{get_or_append_left}
use Rattle.std.proofs.lemmas.Bool.{cases_Bool, cond-true, ne_eqb, or_left}
use Rattle.scheme.specs.declared.faults.CallFault.{CallFault}
use Rattle.scheme.specs.Bounds.{no_point}
use Rattle.scheme.specs.Flow.{capacity, among}
use Rattle.scheme.specs.Marks.{marked}
use Rattle.scheme.specs.Questions.{WellFormed}
use Rattle.scheme.specs.Scheme.{Scheme}
use Rattle.pick.specs.Keys.{Keys, size}
use Rattle.flows.proofs.Fits.{orders_fit}
use Rattle.solver.specs.Calls.{AllYes, cut_questions, CutOrders, CutGains, CutRefused, CutDoes}
use Rattle.solver.specs.Orders.{OrderingMade}
use Rattle.solver.specs.Work.{Work, work_of, written, position, places, marks_of}
use Rattle.solver.proofs.Ordered.{tables_are}
use Rattle.solver.proofs.Written.{needs_none}
use Rattle.solver.proofs.OwnLaws.{marks_tell, capacity_same}

-- ---- the marks

-- the mark of a point, read off a table of places
abbrev pub mark_at : List ℕ → ℕ → ℕ
mark_at place v = cond (eqb (get_or place v 0) no_point) 0 1

-- a point has no position exactly if the order lacks it
position_none :
    (ws : List ℕ) (k v : ℕ) → k + length ws ≤ no_point → eqb (position k ws v) no_point ≡ not (among ws v)
position_none [] k v room = refl
position_none (w ∷ ws) k v room =
    ⊎_elim
    (λ hit.
    ap (λ n. eqb n no_point) (cond-true (eqb w v) k (position (k + 1) ws v) hit)
    ∙ ne_eqb k no_point (λ e. omega arith) ∙ sym (ap not (or_left (eqb w v) (among ws v) hit)))
    (λ miss. rw miss (position_none ws (k + 1) v (omega arith)))
    (cases_Bool (eqb w v))

-- so the marks that the places tell are those of the order
marks_are :
    (s : Scheme) (order p : List ℕ) → length order ≤ no_point
    → map (mark_at (written (places s order) p)) (range_with_len 0 s.points) ≡ marks_of s order
marks_are s order p short =
    fill_by_all (λ v. cond (among order v) 1 0) _ n 0 (length-map-range_with_len mark 0 n)
    (λ v l. get_or-map-range_with_len mark 0 n v v 0 l (omega arith) ∙ at v l)
  where
    n : ℕ
    n = s.points

    mark : ℕ → ℕ
    mark = mark_at (written (places s order) p)

    turned : (b : Bool) → ◌≡◌ {A = ℕ} (cond (not b) 0 1) (cond b 1 0)
    turned true = refl
    turned false = refl

    at : (v : ℕ) → v < n → mark v ≡ cond (among order v) 1 0
    at v l =
        let long = length-map-range_with_len (position 0 order) 0 n in
        let placed = get_or_append_left (places s order) (drop (length (places s order)) p) 0 v (omega arith)
        ∙ get_or-map-range_with_len (position 0 order) 0 n v v 0 l (omega arith) in
        ap (λ m. cond (eqb m no_point) 0 1) placed
        ∙ ap (λ b. cond b 0 1) (position_none order 0 v (omega arith)) ∙ turned (among order v)

-- ---- the capacity

-- the marks tell that of the order
pub capacity_is :
    (s : Scheme) (order marks after : List ℕ) → WellFormed s → after ≡ written (marks_of s order) marks
    → capacity s (marked after) ≡ capacity s (among order)
capacity_is s order marks after formed are =
    ap (λ ms. capacity s (marked ms)) are
    ∙ capacity_same s (marked (written (marks_of s order) marks)) (among order) formed
    (marks_tell s order (drop (length (marks_of s order)) marks))

-- ---- the tables

module _
    {s : Scheme} {o p o' p' : List ℕ} {gain count : ℕ} (m : OrderingMade s o p gain count o' p') (points : ℕ)
    (all : points ≡ s.points)
  where
    pub cut_orders :
        (n n' marks : List ℕ) (ks ls : Keys) → AllYes (cut_questions s (work_of o p n) marks ks)
        → n' ≡ written (replicate points 0) n → size ls ≡ size ks
        → CutOrders s (work_of o p n) marks ks m.order gain (work_of o' p' n') ls
    cut_orders n n' marks ks ls asked cleared stays =
        record {
          asked = asked;
          keys = m.keys;
          made = m.made;
          tables = tables_are _ _ _ _ _ _ m.order_table m.place_table (cleared ∙ ap (λ ns. written ns n) (needs_none s points 0 all refl));
          size_stays = stays;
        }

    pub marks_written :
        (marks after : List ℕ) → WellFormed s → after ≡ written (map (mark_at p') (range_with_len 0 points)) marks
        → after ≡ written (marks_of s m.order) marks
    marks_written marks after formed is =
        let fits = orders_fit s m.order m.keys gain formed m.made in
        let short : length m.order ≤ no_point = omega (arith, fits.short, formed.few_points) in
        is ∙ ap (λ q. written (map (mark_at q) (range_with_len 0 points)) marks) m.place_table
        ∙ ap (λ k. written (map (mark_at (written (places s m.order) p)) (range_with_len 0 k)) marks) all
        ∙ ap (λ ms. written ms marks) (marks_are s m.order p short)

-- an ordering without a gain
pub ordered_none :
    {s : Scheme} {w v : Work} {marks order : List ℕ} {ks ls : Keys} {gain : ℕ} → CutOrders s w marks ks order gain v ls
    → gain ≤ 0 → CutOrders s w marks ks order 0 v ls
ordered_none {s} {w} {v} {marks} {order} {ks} {ls} {gain} ordered low =
    let none : gain ≡ 0 = omega arith in subst (λ (k : ℕ). CutOrders s w marks ks order k v ls) none ordered

-- ---- the refusal

-- it leaves the ordering
pub refused_gain :
    (s : Scheme) (w : Work) (ks : Keys) (marks : List ℕ) (fault : CallFault) (v : Work) (ls : Keys) (after : List ℕ)
    → AllYes (cut_questions s w marks ks) → CutGains s w ks marks fault v ls after
    → CutDoes s w ks marks (Err fault) v ls after
refused_gain s w ks marks fault v ls after asked gains =
    subst (λ q. CutRefused q s w ks marks fault v ls after) (sym asked) gains
