-- The push as a whole. Its invariant: since the round began every point's net outflow has risen by as much as its
-- need, but the outlet's, which needed the gain; the needs together are the gain; points that are done need nothing;
-- and a reach between two points still to come is as it was, so that what was left into a point is left there still.
use Rattle.std.proofs.Common.{◌≡◌, ℕ, ◌+◌, ◌-◌, ◌<◌, ◌≤◌, Bool, true, false, cond, ◌&&◌, ◌||◌, eqb, ◌≢◌, List, [], ◌∷◌, reverse, take, sum_by, sym, refl, ap, ◌∙◌, subst, ⊎_elim, arith}
use Rattle.std.specs.List.{AllZip, AllByRecursion}
use Rattle.std.proofs.lemmas.List.Elements.{length_all_zip}
use Rattle.std.proofs.ByRecursion.{All-take}
use Rattle.std.proofs.lemmas.List.{length-map}
use Rattle.std.proofs.lemmas.Int.{ints}
use Rattle.std.proofs.lemmas.Bool.{and_parts, cases_eq, or_left, or_right, or_from, both_ways, eqb-true, eq-eqb, ne_eqb}
use Rattle.scheme.specs.declared.rows.Reach.{Reach}
use Rattle.scheme.specs.Scheme.{Scheme, over}
use Rattle.scheme.specs.Flow.{Points, Lawful, inflow, outflow, among}
use Rattle.scheme.specs.Questions.{WellFormed, Joined}
use Rattle.flows.specs.Ordering.{left_to, left_into}
use Rattle.flows.specs.Push.{Needs, Stage, first_needs, pushed_all, push_back, push_along, push, needs_after}
use Rattle.flows.specs.Push.Stage.{begins, goes_on}
use Rattle.flows.specs.PushLaws.{Pushed, PushRaisesTheValueByTheGain, NeedsStayWithinTheGain}
use Rattle.scheme.proofs.SumLaws.{sum_below, below_one, below_same, below_term, each_all, each_same, each_self, each_then, each_weaker}
use Rattle.scheme.proofs.Signs.{value_is}
use Rattle.scheme.proofs.Relaid.{Alike, alike_then, flow_list, relaid_alike}
use Rattle.flows.proofs.Backwards.{Ready, made_ready, made_outlet}
use Rattle.flows.proofs.Backwards.Ready.{start, more}
use Rattle.flows.proofs.Steps.{Touched, untouched, steps, sends, brings}

pub record Standing (s : Scheme) (gain : ℕ) (todo : List ℕ) (rs : List Reach) (needs : Needs) : Type 0 where
  pub kept : AllZip (Touched (among todo)) s.reaches rs
  pub within : AllByRecursion (λ r. r.flow ≤ r.limit) rs
  pub conserved :
      (w : ℕ) → sum_by (sends w) rs + inflow s w + first_needs s gain w ≡ outflow s w + sum_by (brings w) rs + needs w
  pub total : sum_below s.points needs ≡ gain
  pub done : (w : ℕ) → among todo w ≡ false → needs w ≡ 0

-- what is left towards v from the points before it is what it was
left_kept : (x : Points) (v : ℕ) (r t : Reach) → Touched (λ u. eqb v u || x u) r t → left_to x v r ≡ left_to x v t
left_kept x v r t h =
    rw (h.alike.tail, h.alike.head, h.alike.limit)
    (same (eqb r.head v && x r.tail) (eqb r.tail v && x r.head) on back)
  where
    here : (w : ℕ) → eqb w v ≡ true → (eqb v w || x w) ≡ true
    here w e = or_left (eqb v w) (x w) (eq-eqb v w (sym (eqb-true w v e)))

    there : (w : ℕ) → x w ≡ true → (eqb v w || x w) ≡ true
    there w e = or_right (eqb v w) (x w) e

    on : (eqb r.head v && x r.tail) ≡ true → t.flow ≡ r.flow
    on e =
        let parts = and_parts (eqb r.head v) (x r.tail) e in
        h.flow (there r.tail parts.1) (here r.head parts.0)

    back : (eqb r.tail v && x r.head) ≡ true → t.flow ≡ r.flow
    back e =
        let parts = and_parts (eqb r.tail v) (x r.head) e in
        h.flow (here r.tail parts.0) (there r.head parts.1)

    same :
        (c d : Bool) → (c ≡ true → t.flow ≡ r.flow) → (d ≡ true → t.flow ≡ r.flow)
        → cond c (r.limit - r.flow) 0 + cond d r.flow 0 ≡ cond c (r.limit - t.flow) 0 + cond d t.flow 0
    same true d e f = rw (e refl) refl
    same false true e f = rw (f refl) refl
    same false false e f = refl

-- a reach that was touched at v, and then while v is done
touched_then :
    (v : ℕ) (ws : List ℕ) (a b c : Reach) → Touched (among (v ∷ ws)) a b → Touched (among ws) b c → Touched (among ws) a c
touched_then v ws a b c p q = record { alike = alike_then a b c p.alike q.alike; flow = flow }
  where
    flow : among ws a.tail ≡ true → among ws a.head ≡ true → c.flow ≡ a.flow
    flow t h =
        q.flow (ap (among ws) p.alike.tail ∙ t) (ap (among ws) p.alike.head ∙ h)
        ∙ p.flow (or_right (eqb v a.tail) (among ws a.tail) t) (or_right (eqb v a.head) (among ws a.head) h)

module _ (s : Scheme) (gain : ℕ) (formed : WellFormed s) (lawful : Lawful s) where
  standing_first :
      (todo : List ℕ) → among todo s.outlet ≡ true → Standing s gain todo s.reaches (first_needs s gain)
  standing_first todo holds =
      record {
        kept = each_self (Touched (among todo)) (untouched (among todo)) s.reaches;
        within = lawful.within;
        conserved = λ w. omega arith;
        total = below_one s.outlet (λ w. gain) s.points formed.outlet_point;
        done = λ w far. rw (ne_eqb s.outlet w (λ e. both_ways (among todo w) far (sym (ap (among todo) e) ∙ holds))) refl;
      }

  ends_inside :
      (todo : List ℕ) (rs : List Reach) → AllZip (Touched (among todo)) s.reaches rs
      → AllByRecursion (λ r. (r.tail < s.points) × (r.head < s.points)) rs
  ends_inside todo rs kept =
      each_all (Touched (among todo)) (Joined s) (λ r. (r.tail < s.points) × (r.head < s.points))
      (λ r t h j. (rw h.alike.tail j.tail_point, rw h.alike.head j.head_point))
      s.reaches rs kept formed.joined

  standing_next :
      (v : ℕ) (ws : List ℕ) (rs : List Reach) (needs : Needs) → v < s.points → among ws v ≡ false
      → gain ≤ left_into s (among ws) v → Standing s gain (v ∷ ws) rs needs
      → Standing s gain ws (pushed_all (among ws) v rs needs).0 (pushed_all (among ws) v rs needs).1
  standing_next v ws rs needs point out enough now =
      let here = steps (among ws) s.points v rs needs out in
      let left : left_into s (among ws) v ≡ sum_by (left_to (among ws) v) rs = each_same (Touched (among (v ∷ ws))) _ _ (left_kept (among ws) v) s.reaches rs now.kept in
      let most = below_term needs s.points v point in
      record {
        kept =
            each_then (Touched (among (v ∷ ws))) (Touched (among ws)) (Touched (among ws)) (touched_then v ws)
            s.reaches rs (pushed_all (among ws) v rs needs).0 now.kept here.touched;
        within = here.within now.within;
        conserved = λ w. omega (arith, here.conserved w, now.conserved w);
        total = here.total point (ends_inside (v ∷ ws) rs now.kept) ∙ now.total;
        done = λ w far.
            ⊎_elim (λ (e : v ≡ w). rw (← e) (omega (arith, here.drained, now.total)))
            (λ ne. here.others w far ne ∙ now.done w (or_from (eqb v w) (among ws w) (ne_eqb v w ne) far)) (cases_eq v w);
      }

  -- ---- from stage to stage

  back_one :
      (v : ℕ) (ws : List ℕ) (rs : List Reach) (needs : Needs) → Ready s gain ws
      → push_back (v ∷ ws) rs needs ≡ push_back ws (pushed_all (among ws) v rs needs).0 (pushed_all (among ws) v rs needs).1
  back_one v _ rs needs start = refl
  back_one v _ rs needs (more a b c ready) = refl

  standing_back :
      {todo : List ℕ} (rs : List Reach) (needs : Needs) → Ready s gain todo → Standing s gain todo rs needs
      → Standing s gain (s.inlet ∷ []) (push_back todo rs needs).0 (push_back todo rs needs).1
  standing_back rs needs start now = now
  standing_back rs needs (more {v = v} {ws = ws} point out enough ready) now =
      subst (λ (p : List Reach × Needs). Standing s gain (s.inlet ∷ []) p.0 p.1) (sym (back_one v ws rs needs ready))
      (standing_back (pushed_all (among ws) v rs needs).0 (pushed_all (among ws) v rs needs).1 ready (standing_next v ws rs needs point out enough now))

  pub ready_rest :
      {v w : ℕ} {ws : List ℕ} → Ready s gain (v ∷ (w ∷ ws))
      → (v < s.points) × (among (w ∷ ws) v ≡ false) × (gain ≤ left_into s (among (w ∷ ws)) v) × Ready s gain (w ∷ ws)
  ready_rest (more point out enough ready) = (point, out, enough, ready)

  pub stage_standing :
      (order : List ℕ) {todo : List ℕ} {rs : List Reach} {needs : Needs} → Ready s gain (reverse order)
      → among (reverse order) s.outlet ≡ true → Stage s order gain todo rs needs
      → Ready s gain todo × Standing s gain todo rs needs
  stage_standing order ready holds begins = (ready, standing_first (reverse order) holds)
  stage_standing order ready holds (goes_on {v = v} {w = w} {ws = ws} {rs = rs} {needs = needs} before) =
      let now = stage_standing order ready holds before in
      let rest = ready_rest now.0 in
      (rest.3, standing_next v (w ∷ ws) rs needs rest.0 rest.1 rest.2 now.1)

  within_gain :
      (v w : ℕ) (ws : List ℕ) (rs : List Reach) (needs : Needs)
      → Ready s gain (v ∷ (w ∷ ws)) × Standing s gain (v ∷ (w ∷ ws)) rs needs → (count u : ℕ) → u < s.points
      → (pushed_all (among (w ∷ ws)) v (take count rs) needs).1 u ≤ gain
  within_gain v w ws rs needs now count u point =
      let rest = ready_rest now.0 in
      let here = steps (among (w ∷ ws)) s.points v (take count rs) needs rest.1 in
      let total = here.total rest.0 (All-take _ count rs (ends_inside (v ∷ (w ∷ ws)) rs now.1.kept)) in
      omega (arith, below_term (pushed_all (among (w ∷ ws)) v (take count rs) needs).1 s.points u point, total, now.1.total)

  -- the end: only the inlet is left, and needs the gain
  standing_last :
      (order : List ℕ) → Standing s gain (s.inlet ∷ []) (push s order gain).reaches (needs_after s order gain)
      → Pushed s order gain
  standing_last order now =
      record {
        limits = record {
          flows = flow_list rs;
          covers = length-map rs (λ r. r.flow) ∙ sym (length_all_zip Alike s.reaches rs alike);
          relaid = ap (over s) (sym (relaid_alike s.reaches rs alike));
        };
        lawful = record { within = now.within; balanced = balanced };
        raised =
            let rise = now.conserved s.inlet in
            let before = value_is s in
            let after = value_is t in
            omega (arith, ints, supplied, unasked s.inlet formed.apart);
        supplied = supplied;
        satisfied = other;
      }
    where
      t : Scheme
      t = push s order gain

      rs : List Reach
      rs = t.reaches

      alike : AllZip Alike s.reaches rs
      alike = each_weaker (Touched (among (s.inlet ∷ []))) Alike (λ r t h. h.alike) s.reaches rs now.kept

      other : (v : ℕ) → v ≢ s.inlet → needs_after s order gain v ≡ 0
      other v ne = now.done v (or_from (eqb s.inlet v) false (ne_eqb s.inlet v (λ e. ne (sym e))) refl)

      unasked : (v : ℕ) → v ≢ s.outlet → first_needs s gain v ≡ 0
      unasked v ne = rw (ne_eqb s.outlet v (λ e. ne (sym e))) refl

      alone :
          (v : ℕ) → v < s.points → needs_after s order gain v ≡ cond (eqb s.inlet v) (needs_after s order gain v) 0
      alone v l =
          ⊎_elim (λ (e : s.inlet ≡ v). rw (eq-eqb s.inlet v e) refl)
          (λ (ne : s.inlet ≡ v → ⊥). rw (ne_eqb s.inlet v ne) (other v (λ e. ne (sym e)))) (cases_eq s.inlet v)

      supplied : needs_after s order gain s.inlet ≡ gain
      supplied =
          sym (below_one s.inlet (needs_after s order gain) s.points formed.inlet_point)
          ∙ sym (below_same (needs_after s order gain) _ s.points alone) ∙ now.total

      balanced : (v : ℕ) → v < s.points → v ≢ s.inlet → v ≢ s.outlet → inflow t v ≡ outflow t v
      balanced v l inner outer =
          omega (arith, now.conserved v, lawful.balanced v l inner outer, other v inner, unasked v outer)

-- whatever stage a push has come to, the rest of it leads to the same end
pub stage_pushes :
    (s : Scheme) (order : List ℕ) (gain : ℕ) {todo : List ℕ} {rs : List Reach} {needs : Needs}
    → Stage s order gain todo rs needs → push_back todo rs needs ≡ push_along s order gain
stage_pushes s order gain begins = refl
stage_pushes s order gain (goes_on before) = stage_pushes s order gain before

pub push_raises : PushRaisesTheValueByTheGain
push_raises s order keys gain formed lawful made some =
    standing_last s gain formed lawful order
    (standing_back s gain formed lawful s.reaches (first_needs s gain) (made_ready s gain gain refl some made)
    (standing_first s gain formed lawful (reverse order) (made_outlet s gain gain refl some made)))

pub needs_within : NeedsStayWithinTheGain
needs_within s order keys gain formed lawful made some v w ws rs needs stage =
    within_gain s gain formed lawful v w ws rs needs
    (stage_standing s gain formed lawful order (made_ready s gain gain refl some made) (made_outlet s gain gain refl some made) stage)
