-- Some ordering of every scheme: the next point is found by looking at all.
use Rattle.std.proofs.Common.{◌≡◌, ℕ, zero, suc, ◌<◌, ◌≤◌, true, false, eqb, ◌⊎◌, List, [], ◌∷◌, ◌++◌, refl, inl, inr, ⊎_elim, arith}
use Rattle.std.proofs.lemmas.Bool.{cases_Bool, cases_eq, cases_lt, both_ways, eqb-true}
use Rattle.scheme.specs.Scheme.{Scheme}
use Rattle.scheme.specs.Flow.{Points, among}
use Rattle.scheme.specs.Questions.{WellFormed}
use Rattle.flows.specs.Ordering.{key, least, Outside, Next, Taken, Made}
use Rattle.flows.specs.Ordering.Taken.{first, next}
use Rattle.flows.specs.Ordering.Made.{arrives, stops}
use Rattle.flows.specs.OrderingLaws.{HasOrdering, EverySchemeHasAnOrdering}
use Rattle.scheme.proofs.SumLaws.{below_term}
use Rattle.flows.proofs.Borders.{outside_of}
use Rattle.flows.proofs.Orders.{taken_lacks_outlet}
use Rattle.flows.proofs.Fits.{outsiders, fewer}

below_suc : (P : ℕ → Type 0) (m : ℕ) → ((w : ℕ) → w < m → P w) → P m → (w : ℕ) → w < suc m → P w
below_suc P m below here w l =
    ⊎_elim (λ (e : w ≡ m). rw e here) (λ (ne : w ≡ m → ⊥). below w (omega arith)) (cases_eq w m)

-- the best of the points below m that are outside
record Best (s : Scheme) (x : Points) (m : ℕ) : Type 0 where
  point : ℕ
  outside : Outside s x point
  most : (w : ℕ) → w < m → x w ≡ false → key s x w ≤ key s x point

module _ (s : Scheme) (x : Points) where
  -- one point more to look at
  best_held : (m : ℕ) → x m ≡ true → Best s x m → Best s x (suc m)
  best_held m held best =
      record {
        point = best.point;
        outside = best.outside;
        most = below_suc (λ w. x w ≡ false → key s x w ≤ key s x best.point) m best.most (λ out. absurd (both_ways (x m) out held));
      }

  best_first : (m : ℕ) → m < s.points → x m ≡ false → ((w : ℕ) → w < m → x w ≡ true) → Best s x (suc m)
  best_first m l out held =
      record {
        point = m;
        outside = (l, out);
        most = below_suc (λ w. x w ≡ false → key s x w ≤ key s x m) m (λ w l far. absurd (both_ways (x w) far (held w l))) (λ far. omega arith);
      }

  best_more : (m : ℕ) → m < s.points → x m ≡ false → Best s x m → Best s x (suc m)
  best_more m l out best =
      ⊎_elim
      (λ (better : key s x best.point < key s x m). record {
        point = m;
        outside = (l, out);
        most = below_suc (λ w. x w ≡ false → key s x w ≤ key s x m) m (λ w l far. omega (arith, best.most w l far)) (λ far. omega arith);
      })
      (λ (worse : key s x m ≤ key s x best.point). record {
        point = best.point;
        outside = best.outside;
        most = below_suc (λ w. x w ≡ false → key s x w ≤ key s x best.point) m best.most (λ far. worse);
      })
      (cases_lt (key s x best.point) (key s x m))

  best_below : (m : ℕ) → m ≤ s.points → ((w : ℕ) → w < m → x w ≡ true) ⊎ Best s x m
  best_below zero h = inl (λ w l. absurd (omega arith))
  best_below (suc m) h =
      let before = best_below m (omega arith) in
      ⊎_elim
      (λ (held : x m ≡ true). ⊎_elim (λ all. inl (below_suc (λ w. x w ≡ true) m all held)) (λ best. inr (best_held m held best)) before)
      (λ (out : x m ≡ false). ⊎_elim (λ all. inr (best_first m h out all)) (λ best. inr (best_more m h out best)) before)
      (cases_Bool (x m))

  -- so wherever a point is outside, one may come next
  some_next : (u : ℕ) → Outside s x u → (v : ℕ) × Next s x v (key s x v)
  some_next u out =
      ⊎_elim (λ all. absurd (both_ways (x u) out.1 (all u out.0)))
      (λ (best : Best s x s.points). (best.point, record { outside = best.outside; is = refl; greatest = λ w o. best.most w o.0 o.1 }))
      (best_below s.points (omega arith))

-- the order goes on by one inner point
record Further (s : Scheme) (ws ks : List ℕ) : Type 0 where
  point : ℕ
  its_key : ℕ
  outside : Outside s (among ws) point
  taken : Taken s (ws ++ point ∷ []) (ks ++ its_key ∷ [])

made : (s : Scheme) (order keys : List ℕ) (gain : ℕ) → Made s order keys gain → HasOrdering s
made s order keys gain m = record { order = order; keys = keys; gain = gain; made = m }

go_on : (s : Scheme) (ws ks : List ℕ) → WellFormed s → Taken s ws ks → HasOrdering s ⊎ Further s ws ks
go_on s ws ks formed taken =
    let found = some_next s (among ws) s.outlet (formed.outlet_point, taken_lacks_outlet s formed.apart taken) in
    by_key found.0 (key s (among ws) found.0) found.1
  where
    by_key : (v k : ℕ) → Next s (among ws) v k → HasOrdering s ⊎ Further s ws ks
    by_key v k n =
        ⊎_elim
        (λ (above : 0 < k).
        ⊎_elim
        (λ (last : eqb v s.outlet ≡ true).
        let end = arrives taken (rw (eqb-true v s.outlet last) at n) above in
        inl (made s (ws ++ s.outlet ∷ []) (ks ++ k ∷ []) (least ks k) end))
        (λ (inner : eqb v s.outlet ≡ false). inr (record { point = v; its_key = k; outside = n.outside; taken = next taken n above inner }))
        (cases_Bool (eqb v s.outlet)))
        (λ (none : k ≤ 0). let zero : k ≡ 0 = omega arith in inl (made s ws ks 0 (stops taken (rw zero at n))))
        (cases_lt 0 k)

-- with fuel for every point outside
make :
    (s : Scheme) (fuel : ℕ) (ws ks : List ℕ) → WellFormed s → outsiders s (among ws) ≤ fuel → Taken s ws ks
    → HasOrdering s
make s zero ws ks formed enough taken =
    let lacks = taken_lacks_outlet s formed.apart taken in
    let outlet = below_term (outside_of (among ws) (λ w. 1)) s.points s.outlet formed.outlet_point in
    let one : 1 ≤ outsiders s (among ws) = rw lacks at outlet in
    absurd (omega arith)
make s (suc fuel) ws ks formed enough taken =
    ⊎_elim (λ done. done)
    (λ (more : Further s ws ks).
    let less = fewer s ws more.point more.outside in
    make s fuel (ws ++ more.point ∷ []) (ks ++ more.its_key ∷ []) formed (omega arith) more.taken)
    (go_on s ws ks formed taken)

pub has_ordering : EverySchemeHasAnOrdering
has_ordering s formed lawful =
    make s (outsiders s (among (s.inlet ∷ []))) (s.inlet ∷ []) [] formed (omega arith) first
