-- The push back through the order, point by point, as the loop makes it.
use Rattle.std.proofs.Common.{◌≡◌, ℕ, ◌-◌, ◌<◌, ◌≤◌, Bool, false, cond, eqb, ◌≢◌, List, [], ◌∷◌, ◌++◌, reverse, length, take, drop, sym, refl, ap, ◌∙◌, subst, ⊎_elim, arith}
use mathlib.Core.Path.{fun_ext}
use Rattle.std.specs.List.{AllZip, AllByRecursion}
use Rattle.std.proofs.lemmas.List.FromFn.{fill_by_all, length-map-range_with_len}
use Rattle.std.proofs.lemmas.List.{append_assoc, append-nil, length-drop, length-reverse, reverse-append, take_all}
use Rattle.std.proofs.lemmas.Bool.{cases_eq, cond-true, cond-false, eq-eqb, ne_eqb}
use Rattle.scheme.specs.declared.rows.Reach.{Reach}
use Rattle.scheme.specs.Flow.{Points, Lawful, among}
use Rattle.scheme.specs.Questions.{WellFormed}
use Rattle.scheme.specs.Scheme.{Scheme, over}
use Rattle.scheme.proofs.Relaid.{Alike, formed_alike}
use Rattle.scheme.proofs.SumLaws.{each_weaker}
use Rattle.flows.specs.Ordering.{Made}
use Rattle.flows.specs.OrderingLaws.{OrderFits}
use Rattle.flows.specs.Push.{Needs, Stage, first_needs, pushed_all, push, push_along}
use Rattle.flows.specs.PushLaws.{Pushed}
use Rattle.flows.specs.Push.Stage.{begins, goes_on}
use Rattle.flows.proofs.Backwards.{made_ready, made_outlet, among_reverse}
use Rattle.flows.proofs.Fits.{orders_fit}
use Rattle.flows.proofs.Keys.{keys_within}
use Rattle.flows.proofs.Steps.{Touched}
use Rattle.flows.proofs.WholePush.{needs_within, push_raises, ready_rest, stage_pushes, stage_standing}
use Rattle.solver.specs.PushSteps.{needs_of, earlier, pushed_point, PointAsks, OrderAsks}
use Rattle.solver.specs.Work.{position, supply}
use Rattle.solver.proofs.PlaceTables.{earlier_split}

stage_on :
    {s : Scheme} {order : List ℕ} {gain : ℕ} (v : ℕ) (todo : List ℕ) (rs : List Reach) (needs : Needs) → 0 < length todo
    → Stage s order gain (v ∷ todo) rs needs
    → Stage s order gain todo (pushed_all (among todo) v rs needs).0 (pushed_all (among todo) v rs needs).1
stage_on v [] rs needs more stage = absurd (omega arith)
stage_on v (w ∷ ws) rs needs more stage = goes_on stage

-- what a stage says of the point v that asks next, with others still to come
record Asking (s : Scheme) (gain v : ℕ) (todo : List ℕ) (rs : List Reach) (needs : Needs) : Type 0 where
  inside : v < s.points
  once : among todo v ≡ false
  alike : AllZip Alike s.reaches rs
  within : AllByRecursion (λ r. r.flow ≤ r.limit) rs
  bounded : (count u : ℕ) → u < s.points → (pushed_all (among todo) v (take count rs) needs).1 u ≤ gain

module _ {s : Scheme} {order keys : List ℕ} {gain : ℕ} (formed : WellFormed s) (lawful : Lawful s) (made : Made s order keys gain) (some : 0 < gain) where
  asking :
      (v : ℕ) (todo : List ℕ) (rs : List Reach) (needs : Needs) → 0 < length todo → Stage s order gain (v ∷ todo) rs needs
      → Asking s gain v todo rs needs
  asking v [] rs needs more stage = absurd (omega arith)
  asking v (w ∷ ws) rs needs more stage =
      let standing = stage_standing s gain formed lawful order (made_ready s gain gain refl some made) (made_outlet s gain gain refl some made) stage in
      let ready = ready_rest s gain formed lawful standing.0 in
      record {
        inside = ready.0;
        once = ready.1;
        alike = each_weaker (Touched (among (v ∷ (w ∷ ws)))) Alike (λ r t h. h.alike) s.reaches rs standing.1.kept;
        within = standing.1.within;
        bounded = needs_within s order keys gain formed lawful made some v w ws rs needs stage;
      }

-- where the loop stands while the inlet and these points after it are still to ask: t is the scheme and need the table
pub record Staged (s : Scheme) (order : List ℕ) (gain : ℕ) (rest : List ℕ) (t : Scheme) (need : List ℕ) : Type 0 where
  pub asked : List ℕ
  pub all : order ≡ (s.inlet ∷ rest) ++ asked
  pub same : t ≡ over s t.reaches
  pub stage : Stage s order gain (reverse (s.inlet ∷ rest)) t.reaches (needs_of need)

module _ {s : Scheme} {order place need : List ℕ} {gain : ℕ} (asks : OrderAsks s order place need gain) where
  fits : OrderFits s order asks.keys
  fits = orders_fit s order asks.keys gain asks.formed asks.made

  pub staged_none :
      (first rest : List ℕ) → ((w : ℕ) → needs_of first w ≡ first_needs s gain w)
      → rest ≡ take (length order - 1) (drop 1 order) → Staged s order gain rest s first
  staged_none first rest zeros is =
      let later = is ∙ take_all (length order - 1) (drop 1 order) (omega (arith, length-drop 1 order)) in
      let whole : order ≡ s.inlet ∷ rest = fits.starts ∙ ap (λ ws. s.inlet ∷ ws) (ap (drop 1) (sym fits.starts) ∙ sym later) in
      record {
        asked = [];
        all = whole ∙ sym (append-nil (s.inlet ∷ rest));
        same = refl;
        stage =
            subst (λ (f : Needs). Stage s order gain (reverse (s.inlet ∷ rest)) s.reaches f) (sym (fun_ext zeros))
            (subst (λ ws. Stage s order gain (reverse ws) s.reaches (first_needs s gain)) whole begins);
      }

  -- the last of them asks next
  module _ {rest : List ℕ} {t : Scheme} {after : List ℕ} (now : Staged s order gain rest t after) (front : List ℕ) (v : ℕ) (is : rest ≡ front ++ v ∷ []) where
    todo : List ℕ
    todo = reverse (s.inlet ∷ front)

    some_todo : 0 < length todo
    unfolding todo
    some_todo = omega (arith, length-reverse (s.inlet ∷ front))

    split : order ≡ (s.inlet ∷ front) ++ v ∷ now.asked
    split = now.all ∙ ap (λ ws. (s.inlet ∷ ws) ++ now.asked) is ∙ append_assoc (s.inlet ∷ front) (v ∷ []) now.asked

    staged : Stage s order gain (v ∷ todo) t.reaches (needs_of after)
    unfolding todo
    staged =
        let turned = ap (λ ws. reverse (s.inlet ∷ ws)) is ∙ reverse-append (s.inlet ∷ front) (v ∷ []) in
        subst (λ ws. Stage s order gain ws t.reaches (needs_of after)) turned now.stage

    asker : Asking s gain v todo t.reaches (needs_of after)
    asker = asking asks.formed asks.lawful asks.made asks.some v todo t.reaches (needs_of after) some_todo staged

    same_points : among todo ≡ among (s.inlet ∷ front)
    unfolding todo
    same_points = fun_ext (among_reverse (s.inlet ∷ front))

    before : earlier place v ≡ among todo
    before =
        ap (λ p. earlier p v) asks.placed
        ∙ earlier_split s order (s.inlet ∷ front) now.asked v split (omega (arith, fits.short, asks.formed.few_points))
        fits.points asker.inside (sym (ap (λ (x : ℕ → Bool). x v) same_points) ∙ asker.once)
        ∙ sym same_points

    pub point_asks : length after ≡ length need → PointAsks t place after v
    point_asks long =
        let points : t.points ≡ s.points = ap (λ (u : Scheme). u.points) now.same in
        let gains = (keys_within s asks.formed asks.lawful).gains order asks.keys gain asks.made in
        let size = ap length asks.placed ∙ length-map-range_with_len (position 0 order) 0 s.points in
        record {
          formed = rw now.same (formed_alike s t.reaches asker.alike asks.formed);
          within = asker.within;
          inside = rw points asker.inside;
          placed = omega arith;
          asked = omega (arith, asks.asked);
          fits = λ count w l. rw before (omega (arith, asker.bounded count w (omega arith)));
        }

    pub staged_more :
        (u : Scheme) (later : List ℕ) → u ≡ over t (pushed_point t place after v).0
        → needs_of later ≡ (pushed_point t place after v).1 → Staged s order gain front u later
    unfolding todo
    staged_more u later flows needs =
        let on = stage_on v todo t.reaches (needs_of after) some_todo staged in
        let all : pushed_point t place after v ≡ pushed_all (among todo) v t.reaches (needs_of after) = ap (λ (x : Points). pushed_all x v t.reaches (needs_of after)) before in
        let reaches = ap (λ (w : Scheme). w.reaches) flows ∙ ap (λ (p : List Reach × Needs). p.0) all in
        let asked = needs ∙ ap (λ (p : List Reach × Needs). p.1) all in
        record {
          asked = v ∷ now.asked;
          all = split;
          same = flows ∙ ap (λ (w : Scheme). over w (pushed_point t place after v).0) now.same ∙ ap (λ (w : Scheme). over s w.reaches) (sym flows);
          stage =
              subst (λ (f : Needs). Stage s order gain todo u.reaches f) (sym asked)
              (subst (λ rs. Stage s order gain todo rs (pushed_all (among todo) v t.reaches (needs_of after)).1) (sym reaches) on);
        }

  -- only the inlet is left
  pub staged_all :
      {rest : List ℕ} {t : Scheme} {after : List ℕ} → Staged s order gain rest t after → length rest ≡ 0
      → length after ≡ length need → (t ≡ push s order gain) × (after ≡ supply s gain)
  staged_all {rest = r ∷ rs} now few long = absurd (omega arith)
  staged_all {rest = []} {t = t} {after = after} now few long =
      (now.same ∙ ap (λ (p : List Reach × Needs). over s p.0) whole, fill_by_all (λ v. cond (eqb v s.inlet) gain 0) after s.points 0 (long ∙ asks.asked) (λ v l. ap (λ (p : List Reach × Needs). p.1 v) whole ∙ supplied v))
    where
      whole : ◌≡◌ {A = List Reach × Needs} (t.reaches, needs_of after) (push_along s order gain)
      whole = stage_pushes s order gain now.stage

      raised : Pushed s order gain
      raised = push_raises s order asks.keys gain asks.formed asks.lawful asks.made asks.some

      supplied : (v : ℕ) → (push_along s order gain).1 v ≡ cond (eqb v s.inlet) gain 0
      supplied v =
          ⊎_elim
          (λ (e : v ≡ s.inlet). ap (push_along s order gain).1 e ∙ raised.supplied ∙ sym (cond-true (eqb v s.inlet) gain 0 (eq-eqb v s.inlet e)))
          (λ (ne : v ≢ s.inlet). raised.satisfied v ne ∙ sym (cond-false (eqb v s.inlet) gain 0 (ne_eqb v s.inlet ne)))
          (cases_eq v s.inlet)
