-- Every history keeps the law: each call leaves what stands, and with it its part of the law.
use Rattle.std.proofs.Common.{◌≡◌, ℕ, eqb, List, [], ◌∷◌, ◌++◌, length, ℤ, Ok, Err, Result, sym, ◌∙◌, subst, arith}
use Rattle.std.specs.List.{AllByRecursion}
use Rattle.std.proofs.lemmas.Bool.{cond_both, eqb-false}
use Rattle.scheme.specs.declared.faults.CallFault.{CallFault}
use Rattle.scheme.specs.declared.faults.CallFault.TheVariants.{Gains}
use Rattle.scheme.specs.Scheme.{Scheme, with_limit, emptied}
use Rattle.scheme.specs.Marks.{marked}
use Rattle.pick.specs.Keys.{Keys}
use Rattle.flows.specs.RoundsTold.{Gainful, gainful}
use Rattle.scheme.proofs.Asked.{form_means, book_means}
use Rattle.scheme.proofs.Searches.{some≢none}
use Rattle.flows.proofs.Limits.{limits_formed, same_limits_self}
use Rattle.solver.specs.declared.answers.Opened.{Opened}
use Rattle.solver.specs.declared.answers.Rounded.{Rounded}
use Rattle.solver.specs.declared.answers.Settled.{Settled}
use Rattle.solver.specs.declared.asks.Answer.{Answer}
use Rattle.solver.specs.declared.asks.Answer.TheVariants.{OfOpen, OfLimit, OfRound, OfSettle, OfValue, OfCut}
use Rattle.solver.specs.declared.asks.Call.{Call}
use Rattle.solver.specs.declared.asks.Call.TheVariants.{Open, Limit, Round, Settle, Value, Cut}
use Rattle.scheme.specs.Questions.{form_questions}
use Rattle.solver.specs.Calls.{AllYes, FirstNo, hold_all, lengths_of, round_questions}
use Rattle.solver.specs.Calls.{OpenDoes, LimitDoes, ValueDoes, SettleDoes, CutDoes}
use Rattle.solver.specs.History.{View, put, Step, gained_by, RoundSteps, DoesCall, Does, History, limits_after, in_force}
use Rattle.solver.specs.History.{StepLaw, EveryHistoryKeepsTheLaw}
use Rattle.solver.specs.History.History.{done, then}
use Rattle.solver.specs.Laws.{LawfulWith, Closes, SettledAt, LeastCut, StillAGap}
use Rattle.solver.specs.Work.{Work}
use Rattle.solver.proofs.OwnLaws.{asked_limit, round_leaves, round_closes, settle_chain, settle_greatest, settle_closes}
use Rattle.solver.proofs.OwnLaws.{cut_least, cut_refused}
use Rattle.solver.proofs.Telling.{ordering_refused, limit_refused}
use Rattle.solver.proofs.Standing.{Stands, stands_law, stands_then, stands_limited, emptied_limits, emptied_lawful}

-- ---- the law of a step, from its answer

none_gained : (rounds : List Gainful) → rounds ≡ [] → AllByRecursion Closes rounds
none_gained rounds gained = subst (AllByRecursion Closes) (sym gained) tt

module _ (limits : Scheme) (x : Step) where
  answered :
      (told : Answer) → x.answer ≡ Ok told → LawfulWith limits x.after → AllByRecursion Closes x.gained
      → ((z : Settled) → told ≡ OfSettle z → SettledAt x.after z.value × (z.rounds ≡ length x.gained))
      → ((c : ℕ) → told ≡ OfCut c → LeastCut x.after (marked x.marks) c) → StepLaw limits x
  answered told is lawful closes settled cut =
      record {
        lawful = lawful;
        closes = closes;
        settled = λ z e. settled z (cc);
        cut = λ c e. cut c (cc);
        not_yet = λ e. absurd (let no : ◌≡◌ {A = ℕ} 0 1 = cc in omega arith);
      }

  refused :
      (fault : CallFault) → x.answer ≡ Err fault → LawfulWith limits x.after → x.gained ≡ []
      → (fault ≡ Gains → StillAGap x.after) → StepLaw limits x
  refused fault is lawful gained not_yet =
      record {
        lawful = lawful;
        closes = none_gained x.gained gained;
        settled = λ z e. absurd (let no : ◌≡◌ {A = ℕ} 0 1 = cc in omega arith);
        cut = λ c e. absurd (let no : ◌≡◌ {A = ℕ} 0 1 = cc in omega arith);
        not_yet = λ e. not_yet (cc);
      }

-- an answer that is neither a settled value nor a cut
abbrev Plain : Answer → Type 0
Plain (OfOpen told) = Unit {0}
Plain (OfLimit old) = Unit {0}
Plain (OfRound told) = Unit {0}
Plain (OfSettle told) = ⊥
Plain (OfValue z) = Unit {0}
Plain (OfCut c) = ⊥

-- what a step leaves
record Kept (limits : Scheme) (x : Step) : Type 0 where
  stands : Stands limits x.after
  law : StepLaw limits x

-- ---- call by call

plain :
    (limits : Scheme) (x : Step) (told : Answer) → Plain told → x.answer ≡ Ok told → AllByRecursion Closes x.gained
    → Stands limits x.after → Kept limits x
plain limits x told kind is closes stands =
    record {
      stands = stands;
      law = answered limits x told is (stands_law stands) closes
          (λ z e. absurd (subst Plain e kind))
          (λ c e. absurd (subst Plain e kind));
    }

module _ (limits s : Scheme) (x : Step) (here : Stands limits s) where
  -- a refused call, which leaves the scheme
  stays :
      (fault : CallFault) → x.answer ≡ Err fault → x.after ≡ s → x.gained ≡ [] → (fault ≡ Gains → StillAGap s)
      → Kept limits x
  stays fault is same gained not_yet =
      let stands : Stands limits x.after = subst (Stands limits) (sym same) here in
      record {
        stands = stands;
        law = refused limits x fault is (stands_law stands) gained (λ e. subst StillAGap (sym same) (not_yet e));
      }

  open_keeps :
      (r : Result Opened CallFault) → OpenDoes s r x.after → x.answer ≡ put OfOpen r → x.gained ≡ []
      → Kept limits x
  open_keeps (Ok told) does is gained =
      plain limits x (OfOpen told) tt is (none_gained x.gained gained)
      (subst (Stands limits) (sym does.2) (stands_then here (emptied_limits s) (emptied_lawful s)))
  open_keeps (Err fault) does is gained =
      stays fault is does.1 gained
      (λ e. absurd (some≢none (sym does.0 ∙ (form_means s).1 here.formed)))

  value_keeps :
      (r : Result ℤ CallFault) → ValueDoes s r → x.after ≡ s → x.answer ≡ put OfValue r → x.gained ≡ []
      → Kept limits x
  value_keeps (Ok z) does same is gained =
      plain limits x (OfValue z) tt is (none_gained x.gained gained) (subst (Stands limits) (sym same) here)
  value_keeps (Err fault) does same is gained =
      stays fault is same gained (λ e. absurd (some≢none (sym does ∙ (book_means s).1 (here.formed, here.lawful))))

  round_refused : (w : Work) (ks : Keys) (fault : CallFault) → FirstNo (round_questions s w ks) fault → fault ≡ Gains → ⊥
  round_refused w ks = ordering_refused s (hold_all s.points (lengths_of w)) ks

  round_keeps :
      (v w : View) (r : Result Rounded CallFault) → RoundSteps s v r x w → x.answer ≡ put OfRound r → Kept limits x
  round_keeps v w (Ok told) steps is =
      let made = steps.0 in
      let leaves = round_leaves made in
      let gain = told.gain in
      let closes : AllByRecursion Closes (gained_by s made.works.order gain x.after) =
      cond_both (eqb gain 0) [] (gainful s made.works.order gain x.after ∷ []) (AllByRecursion Closes) (λ _. tt)
      (λ e. let some : gain ≡ 0 → ⊥ = eqb-false gain 0 e in (round_closes made (omega arith), tt)) in
      plain limits x (OfRound told) tt is (subst (AllByRecursion Closes) (sym steps.1) closes)
      (stands_then here leaves.limits leaves.lawful)
  round_keeps v w (Err fault) steps is =
      stays fault is steps.0.1 steps.1 (λ e. absurd (round_refused v.work v.keys fault steps.0.0 e))

  settle_keeps :
      (v w : View) (r : Result Settled CallFault)
      → SettleDoes s v.work v.keys x.gained r x.after w.work w.keys → x.answer ≡ put OfSettle r
      → Kept limits x
  settle_keeps v w (Ok told) made is =
      let chain = settle_chain made in
      let stands : Stands limits x.after = stands_then here chain.limits chain.lawful in
      record {
        stands = stands;
        law = answered limits x (OfSettle told) is (stands_law stands) (settle_closes made)
            (λ z e.
            let same : told ≡ z = cc in
            subst (λ (y : Settled). SettledAt x.after y.value × (y.rounds ≡ length x.gained)) same
            (settle_greatest made, made.counted))
            (λ c e. absurd (let no : ◌≡◌ {A = ℕ} 0 1 = cc in omega arith));
      }
  settle_keeps v w (Err fault) does is =
      stays fault is does.2 does.1 (λ e. absurd (round_refused v.work v.keys fault does.0 e))

  cut_keeps :
      (v w : View) (r : Result ℕ CallFault) → x.marks ≡ w.marks
      → CutDoes s v.work v.keys v.marks r w.work w.keys w.marks → x.after ≡ s
      → x.answer ≡ put OfCut r → x.gained ≡ [] → Kept limits x
  cut_keeps v w (Ok c) marks made same is gained =
      let stands : Stands limits x.after = subst (Stands limits) (sym same) here in
      let least : LeastCut x.after (marked x.marks) c = rw (same, marks) (cut_least made) in
      record {
        stands = stands;
        law = answered limits x (OfCut c) is (stands_law stands) (none_gained x.gained gained)
            (λ z e. absurd (let no : ◌≡◌ {A = ℕ} 0 1 = cc in omega arith))
            (λ d e. let equal : c ≡ d = cc in subst (LeastCut x.after (marked x.marks)) equal least);
      }
  cut_keeps v w (Err fault) marks does same is gained =
      stays fault is same gained (cut_refused s v.work v.keys v.marks fault w.work w.keys w.marks does)

-- a limit changes the limits in force where it was not refused
limit_keeps :
    (limits s : Scheme) (x : Step) (k l : ℕ) (r : Result ℕ CallFault) → Stands limits s → LimitDoes s k l r x.after
    → x.answer ≡ put OfLimit r → x.gained ≡ [] → Kept (limits_after limits (Limit k l) (put OfLimit r)) x
limit_keeps limits s x k l (Ok old) here does is gained =
    let fits = asked_limit s k l does.0 in
    let there = stands_limited limits s k l fits.within fits.small fits.room here in
    plain (with_limit limits k l) x (OfLimit old) tt is (none_gained x.gained gained)
    (subst (Stands (with_limit limits k l)) (sym does.2) there)
limit_keeps limits s x k l (Err fault) here does is gained =
    stays limits s x here fault is does.1 gained (λ e. absurd (limit_refused s k l fault does.0 e))

call_keeps :
    (limits s : Scheme) (v w : View) (x : Step) (call : Call) → Stands limits s → x.marks ≡ w.marks
    → DoesCall call s v x w → Kept (limits_after limits call x.answer) x
call_keeps limits s v w x Open here marks does = open_keeps limits s x here does.0 does.1 does.2 does.3
call_keeps limits s v w x (Limit k l) here marks does =
    subst (λ a. Kept (limits_after limits (Limit k l) a) x) (sym does.2)
    (limit_keeps limits s x k l does.0 here does.1 does.2 does.3)
call_keeps limits s v w x Round here marks does = round_keeps limits s x here v w does.0 does.1 does.2
call_keeps limits s v w x Settle here marks does = settle_keeps limits s x here v w does.0 does.1 does.2
call_keeps limits s v w x Value here marks does =
    value_keeps limits s x here does.0 does.1 does.2 does.3 does.4
call_keeps limits s v w x Cut here marks does =
    cut_keeps limits s x here v w does.0 marks does.1 does.2 does.3 does.4

step_keeps :
    (limits s : Scheme) (v w : View) (x : Step) → Stands limits s → Does s v x w
    → Kept (limits_after limits x.call x.answer) x
step_keeps limits s v w x here does =
    let did = subst (λ call. DoesCall call s v x w) (sym does.which) does.does in
    call_keeps limits s v w x x.call here does.marks did

-- ---- along a history

abbrev Along : Scheme → List Step → Type 0
Along limits [] = Unit {0}
Along limits (x ∷ xs) =
    StepLaw (limits_after limits x.call x.answer) x × Along (limits_after limits x.call x.answer) xs

along :
    {s t : Scheme} {vs ws : List View} {xs : List Step} (limits : Scheme) → Stands limits s → History s vs xs ws t
    → Along limits xs
along limits here done = tt
along {s} limits here (then {v = v} {w = w} {x = x} does rest) =
    let kept = step_keeps limits s v w x here does in
    (kept.law, along (limits_after limits x.call x.answer) kept.stands rest)

-- at any of its calls
at_call :
    (limits : Scheme) (earlier : List Step) (x : Step) (later : List Step) → Along limits (earlier ++ x ∷ later)
    → StepLaw (in_force limits (earlier ++ x ∷ [])) x
at_call limits [] x later laws = laws.0
at_call limits (y ∷ earlier) x later laws = at_call (limits_after limits y.call y.answer) earlier x later laws.1

-- where a history begins
pub stands_opened : (s : Scheme) → AllYes (form_questions s) → Stands (emptied s) (emptied s)
stands_opened s asked =
    record {
      formed = limits_formed s (emptied s) (emptied_limits s) ((form_means s).0 asked);
      lawful = emptied_lawful s;
      under = same_limits_self (emptied s);
    }

pub histories_keep_the_law : EveryHistoryKeepsTheLaw
histories_keep_the_law s t told vs ws steps opened history earlier x later split =
    at_call (emptied s) earlier x later
    (subst (Along (emptied s)) split (along (emptied s) (stands_opened s opened.0) history))
