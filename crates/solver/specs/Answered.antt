-- One call of a list, once it answered: the step that the list records of it.
use Rattle.std.specs.Prelude.{◌≡◌, ℕ, List, Result}
use Rattle.scheme.specs.declared.faults.CallFault.{CallFault}
use Rattle.scheme.specs.Scheme.{Scheme}
use Rattle.flows.specs.RoundsTold.{Gainful}
use Rattle.solver.specs.declared.asks.Call.{Call}
use Rattle.solver.specs.declared.asks.Answer.{Answer}
use Rattle.solver.specs.History.{View, Step, DoesCall, Does}

abbrev pub step_of : Call → Result Answer CallFault → List ℕ → List Gainful → Scheme → Step
step_of call answer marks gained after =
    record { call = call; answer = answer; marks = marks; gained = gained; after = after }

-- On the scheme s this call answered r and left the scheme t; v is what came with it, and w what that became.
pub record Answered
    (call : Call) (s : Scheme) (v : View) (r : Result Answer CallFault) (t : Scheme) (w : View) : Type 0 where
  pub same_call : w.call ≡ v.call
  pub gained : List Gainful
  pub does : DoesCall call s v (step_of v.call r w.marks gained t) w

-- One call was made and its answer put beside it: some step of a history tells what it did.
pub record Stepped (s : Scheme) (v : View) (t : Scheme) (w : View) : Type 0 where
  pub step : Step
  pub does : Does s v step w
  pub leaves : step.after ≡ t
