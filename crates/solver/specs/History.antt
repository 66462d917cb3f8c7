-- Lists of calls: what each did, and the law that holds after each call of every list.
use Rattle.std.specs.Prelude.{◌≡◌, ℕ, cond, List, [], ◌∷◌, ◌++◌, length, ℤ, Some, Ok, Err, vec_items, Option, Result, ◌==◌}
use Rattle.std.specs.List.{AllByRecursion}
use Rattle.scheme.specs.declared.faults.CallFault.{CallFault}
use Rattle.scheme.specs.declared.faults.CallFault.TheVariants.{Gains}
use Rattle.scheme.specs.Scheme.{Scheme, with_limit, emptied}
use Rattle.scheme.specs.Marks.{marked}
use Rattle.pick.specs.Keys.{Keys}
use Rattle.flows.specs.RoundsTold.{Gainful, gainful}
use Rattle.solver.specs.declared.answers.Opened.{Opened}
use Rattle.solver.specs.declared.answers.Rounded.{Rounded}
use Rattle.solver.specs.declared.answers.Settled.{Settled}
use Rattle.solver.specs.declared.asks.Call.{Call}
use Rattle.solver.specs.declared.asks.Call.TheVariants.{Open, Limit, Round, Settle, Value, Cut}
use Rattle.solver.specs.declared.asks.Answer.{Answer}
use Rattle.solver.specs.declared.asks.Answer.TheVariants.{OfOpen, OfLimit, OfRound, OfSettle, OfValue, OfCut}
use Rattle.solver.specs.declared.asks.Ask.{Ask}
use Rattle.solver.specs.Work.{Work}
use Rattle.solver.specs.Desks.{tables_of}
use Rattle.solver.specs.Calls.{OpenDoes, LimitDoes, RoundDoes, RoundMade, SettleDoes, ValueDoes, CutDoes}
use Rattle.solver.specs.Laws.{LawfulWith, Closes, SettledAt, LeastCut, StillAGap}

-- A call of a list as it is seen from outside, whatever kind its pick is.
pub record View : Type 0 where
  pub call : Call
  pub work : Work
  pub marks : List ℕ
  pub keys : Keys
  pub answer : Option (Result Answer CallFault)

abbrev pub view_of : {P : Type 0} → (P → Keys) → Ask P → View
view_of held a =
    record {
      call = a.call;
      work = tables_of a.desk;
      marks = vec_items a.desk.marks;
      keys = held a.desk.pick;
      answer = a.answer;
    }

-- an answer put into the list
abbrev pub put : {X : Type 0} → (X → Answer) → Result X CallFault → Result Answer CallFault
put of (Ok x) = Ok (of x)
put of (Err fault) = Err fault

-- What came of one call: its answer, the marks then, the rounds that gained within it, and the scheme that it left.
pub record Step : Type 0 where
  pub call : Call
  pub answer : Result Answer CallFault
  pub marks : List ℕ
  pub gained : List Gainful
  pub after : Scheme

-- the rounds that gained in a round, which made this order
abbrev pub gained_by : Scheme → List ℕ → ℕ → Scheme → List Gainful
gained_by s order gain t = cond (gain == 0) [] (gainful s order gain t ∷ [])

-- the tables, the marks and the pick of a call that has no use for them
abbrev pub Idle : View → View → Type 0
Idle v w = (w.work ≡ v.work) × (w.marks ≡ v.marks) × (w.keys ≡ v.keys)

-- what a round did, and which rounds gained in it
abbrev pub RoundSteps : Scheme → View → Result Rounded CallFault → Step → View → Type 0
RoundSteps s v (Ok told) x w =
    (made : RoundMade s v.work v.keys told.gain told.length x.after w.work w.keys)
    × (x.gained ≡ gained_by s made.works.order told.gain x.after)
RoundSteps s v (Err fault) x w =
    RoundDoes s v.work v.keys (Err fault) x.after w.work w.keys × (x.gained ≡ [])

-- What a call did, as it promises: on the scheme s, with the tables and the pick of v before it and those of w after it.
abbrev pub DoesCall : Call → Scheme → View → Step → View → Type 0
DoesCall Open s v x w =
    (r : Result Opened CallFault) × OpenDoes s r x.after × (x.answer ≡ put OfOpen r) × (x.gained ≡ []) × Idle v w
DoesCall (Limit k l) s v x w =
    (r : Result ℕ CallFault) × LimitDoes s k l r x.after × (x.answer ≡ put OfLimit r) × (x.gained ≡ []) × Idle v w
DoesCall Round s v x w =
    (r : Result Rounded CallFault) × RoundSteps s v r x w × (x.answer ≡ put OfRound r) × (w.marks ≡ v.marks)
DoesCall Settle s v x w =
    (r : Result Settled CallFault) × SettleDoes s v.work v.keys x.gained r x.after w.work w.keys
    × (x.answer ≡ put OfSettle r) × (w.marks ≡ v.marks)
DoesCall Value s v x w =
    (r : Result ℤ CallFault) × ValueDoes s r × (x.after ≡ s) × (x.answer ≡ put OfValue r) × (x.gained ≡ []) × Idle v w
DoesCall Cut s v x w =
    (r : Result ℕ CallFault) × CutDoes s v.work v.keys v.marks r w.work w.keys w.marks
    × (x.after ≡ s) × (x.answer ≡ put OfCut r) × (x.gained ≡ [])

pub record Does (s : Scheme) (v : View) (x : Step) (w : View) : Type 0 where
  pub which : x.call ≡ v.call
  pub same_call : w.call ≡ v.call
  pub told : w.answer ≡ Some x.answer
  pub marks : x.marks ≡ w.marks
  pub does : DoesCall v.call s v x w

-- A history: such calls one after another, from the scheme s to the scheme t.
pub data History : Scheme → List View → List Step → List View → Scheme → Type 0 where
  done : {s : Scheme} → History s [] [] [] s
  then :
      {s t : Scheme} {v w : View} {x : Step} {vs ws : List View} {xs : List Step} → Does s v x w
      → History x.after vs xs ws t → History s (v ∷ vs) (x ∷ xs) (w ∷ ws) t

-- The limits in force, as those of a scheme: each limit that was not refused changes them.
abbrev pub limits_after : Scheme → Call → Result Answer CallFault → Scheme
limits_after s (Limit k x) (Ok told) = with_limit s k x
limits_after s (Limit k x) (Err fault) = s
limits_after s Open told = s
limits_after s Round told = s
limits_after s Settle told = s
limits_after s Value told = s
limits_after s Cut told = s

abbrev pub in_force : Scheme → List Step → Scheme
in_force s [] = s
in_force s (x ∷ xs) = in_force (limits_after s x.call x.answer) xs

-- What holds after one call, under the limits in force then.
pub record StepLaw (limits : Scheme) (x : Step) : Type 0 where
  -- the flow is lawful under the limits in force, and there is exactly one gap
  pub lawful : LawfulWith limits x.after
  -- each round that gained closed the gap by its part, also within settle
  pub closes : AllByRecursion Closes x.gained
  -- when settle answers, the value told is the flow's, no lawful flow has more, and the rounds told are those that gained
  pub settled :
      (told : Settled) → x.answer ≡ Ok (OfSettle told)
      → SettledAt x.after told.value × (told.rounds ≡ length x.gained)
  -- when cut answers
  pub cut : (c : ℕ) → x.answer ≡ Ok (OfCut c) → LeastCut x.after (marked x.marks) c
  -- cut refuses with 14 only while there is a gap
  pub not_yet : x.answer ≡ Err Gains → StillAGap x.after

-- THE LAW of a list of calls on a book that open accepted: it holds after each of them.
abbrev pub Law : Scheme → List Step → Type 0
Law opened steps =
    (earlier : List Step) (x : Step) (later : List Step) → steps ≡ earlier ++ x ∷ later
    → StepLaw (in_force opened (earlier ++ x ∷ [])) x

-- It holds of every history, whatever tables and picks come with the calls.
abbrev pub EveryHistoryKeepsTheLaw : Type 0
EveryHistoryKeepsTheLaw =
    (s t : Scheme) (told : Opened) (vs ws : List View) (steps : List Step) → OpenDoes s (Ok told) (emptied s)
    → History (emptied s) vs steps ws t → Law (emptied s) steps

-- what the run of a list of calls does
pub record Ran (s : Scheme) (told : Opened) (vs : List View) (t : Scheme) (ws : List View) : Type 0 where
  pub opened : OpenDoes s (Ok told) (emptied s)
  pub start : LawfulWith (emptied s) (emptied s)
  pub steps : List Step
  pub history : History (emptied s) vs steps ws t
  pub law : Law (emptied s) steps

abbrev pub Replayed : Scheme → List View → Result Opened CallFault → Scheme → List View → Type 0
Replayed s vs (Ok told) t ws = Ran s told vs t ws
Replayed s vs (Err fault) t ws = OpenDoes s (Err fault) t × (ws ≡ vs)
