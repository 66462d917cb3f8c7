-- A list of calls, made one after another: each is one more step at the end of a history.
use Rattle.std.proofs.Common.{◌≡◌, ℕ, ◌+◌, ◌<◌, ◌≤◌, List, [], ◌∷◌, ◌++◌, map, length, get_or, take, drop, set, Some, Ok, Err, Result, sym, refl, ap, ◌∙◌, subst, arith}
use Rattle.std.proofs.lemmas.List.{take_all, take_more_set, drop_more, drop-set-lt, map_more, map_push}
use Rattle.scheme.specs.declared.faults.CallFault.{CallFault}
use Rattle.scheme.specs.Scheme.{Scheme, emptied}
use Rattle.solver.specs.declared.answers.Opened.{Opened}
use Rattle.solver.specs.declared.answers.Rounded.{Rounded}
use Rattle.solver.specs.declared.asks.Answer.{Answer}
use Rattle.solver.specs.declared.asks.Answer.TheVariants.{OfRound}
use Rattle.solver.specs.declared.asks.Call.{Call}
use Rattle.solver.specs.declared.asks.Call.TheVariants.{Open, Limit, Round, Settle, Value, Cut}
use Rattle.solver.specs.Answered.{Answered, Stepped, step_of}
use Rattle.solver.specs.Calls.{OpenDoes, RoundDoes}
use Rattle.solver.specs.History.{View, Step, put, gained_by, RoundSteps, DoesCall, Does, History, Ran}
use Rattle.solver.specs.History.History.{done, then}
use Rattle.solver.proofs.Histories.{stands_opened, histories_keep_the_law}
use Rattle.solver.proofs.Standing.{stands_law}

-- ---- one call

-- a call does not look at the answer that stands beside it
abbrev with_answer : View → Result Answer CallFault → View
with_answer w r =
    record { call = w.call; work = w.work; marks = w.marks; keys = w.keys; answer = Some r }

beside_round :
    (s : Scheme) (v w : View) (x : Step) (r : Result Answer CallFault) (told : Result Rounded CallFault)
    → RoundSteps s v told x w → RoundSteps s v told x (with_answer w r)
beside_round s v w x r (Ok told) does = does
beside_round s v w x r (Err fault) does = does

beside :
    (call : Call) (s : Scheme) (v w : View) (x : Step) (r : Result Answer CallFault) → DoesCall call s v x w
    → DoesCall call s v x (with_answer w r)
beside Open s v w x r does = does
beside (Limit k l) s v w x r does = does
beside Round s v w x r does =
    (does.0, beside_round s v w x r does.0 does.1, does.2, does.3)
beside Settle s v w x r does = does
beside Value s v w x r does = does
beside Cut s v w x r does = does

pub answered_steps :
    (s t : Scheme) (v w : View) (r : Result Answer CallFault) → Answered v.call s v r t w
    → Stepped s v t (with_answer w r)
answered_steps s t v w r made =
    record {
      step = step_of v.call r w.marks made.gained t;
      does = record {
        which = refl;
        same_call = made.same_call;
        told = refl;
        marks = refl;
        does = beside v.call s v w (step_of v.call r w.marks made.gained t) r made.does;
      };
      leaves = refl;
    }

-- which rounds gained in a round goes by its answer
pub round_answered :
    (s t : Scheme) (v w : View) (r : Result Rounded CallFault) (a : Result Answer CallFault) → a ≡ put OfRound r
    → w.call ≡ v.call → w.marks ≡ v.marks → RoundDoes s v.work v.keys r t w.work w.keys → Answered Round s v a t w
round_answered s t v w (Ok told) a is call marks made =
    record {
      same_call = call;
      gained = gained_by s made.works.order told.gain t;
      does = (Ok told, (made, refl), is, marks);
    }
round_answered s t v w (Err fault) a is call marks does =
    record { same_call = call; gained = []; does = (Err fault, (does, refl), is, marks) }

-- ---- one after another

abbrev pub Runs : Scheme → List View → List View → Scheme → Type 0
Runs s vs ws t = (steps : List Step) × History s vs steps ws t

then_last :
    {s t : Scheme} {v w : View} {x : Step} {vs ws : List View} {xs : List Step} → History s vs xs ws t → Does t v x w
    → History s (vs ++ v ∷ []) (xs ++ x ∷ []) (ws ++ w ∷ []) x.after
then_last done last = then last done
then_last (then first rest) last = then first (then_last rest last)

run_more :
    (s t u : Scheme) (vs ws : List View) (v w : View) → Runs s vs ws t → Stepped t v u w
    → Runs s (vs ++ v ∷ []) (ws ++ w ∷ []) u
run_more s t u vs ws v w runs last = (
  runs.0 ++ last.step ∷ [],
  subst (History s (vs ++ v ∷ []) (runs.0 ++ last.step ∷ []) (ws ++ w ∷ [])) last.leaves
      (then_last runs.1 last.does),
)

-- A list of calls `before` of which the first i were made, which left the list `now`.
module _ {X : Type 0} (view : X → View) (before now : List X) (i : ℕ) where
  abbrev pub Reached : Scheme → Scheme → Type 0
  Reached s t = Runs s (map view (take i before)) (map view (take i now)) t

  -- the next call is as it came, and so are those after it
  next_as_came :
      (d : X) → i < length before → length now ≡ length before → drop i now ≡ drop i before
      → (get_or now i d ≡ get_or before i d) × (drop (i + 1) now ≡ drop (i + 1) before)
  next_as_came d within long same =
      let inside : i < length now = omega arith in
      let ours = drop_more now i d inside in
      let theirs = drop_more before i d within in
      (cc, cc)

  pub reached_more :
      (s t u : Scheme) (d y : X) → i < length before → length now ≡ length before → drop i now ≡ drop i before
      → Reached s t → Stepped t (view (get_or now i d)) u (view y)
      → Runs s (map view (take (i + 1) before)) (map view (take (i + 1) (set now i y))) u
      × (drop (i + 1) (set now i y) ≡ drop (i + 1) before)
  reached_more s t u d y within long same runs last =
      let came = next_as_came d within long same in
      let inside : i < length now = omega arith in
      let vs : map view (take i before) ++ view (get_or now i d) ∷ [] ≡ map view (take (i + 1) before) =
      ap (λ (x : X). map view (take i before) ++ view x ∷ []) came.0 ∙ sym (map_more view before i d within) in
      let ws : map view (take i now) ++ view y ∷ [] ≡ map view (take (i + 1) (set now i y)) =
      sym (map_push view (take i now) y) ∙ ap (map view) (sym (take_more_set now i y inside)) in
      let all = run_more s t u _ _ (view (get_or now i d)) (view y) runs last in (
        subst (λ (l : List View). Runs s (map view (take (i + 1) before)) l u) ws
            (subst (λ (l : List View). Runs s l (map view (take i now) ++ view y ∷ []) u) vs all),
        drop-set-lt (i + 1) now i y (omega arith) ∙ came.1,
      )

  pub reached_all : (s b t : Scheme) (told : Opened) → length before ≤ i → length now ≡ length before
      → OpenDoes s (Ok told) b → Reached b t → Ran s told (map view before) t (map view now)
  reached_all s b t told past long does runs =
      let opened : OpenDoes s (Ok told) (emptied s) = (does.0, does.1, refl) in
      let vs = ap (map view) (take_all i before past) in
      let ws = ap (map view) (take_all i now (omega arith)) in
      let history : History (emptied s) (map view before) runs.0 (map view now) t =
      subst (λ (l : List View). History (emptied s) (map view before) runs.0 l t) ws
      (subst (λ (l : List View). History (emptied s) l runs.0 (map view (take i now)) t) vs
      (subst (λ (z : Scheme). History z (map view (take i before)) runs.0 (map view (take i now)) t)
      does.2 runs.1))
      in
      record {
        opened = opened;
        start = stands_law (stands_opened s does.0);
        steps = runs.0;
        history = history;
        law = histories_keep_the_law s t told (map view before) (map view now) runs.0 opened history;
      }
