use Rattle.scheme.proofs.Amounts.{Summed}
use Rattle.scheme.proofs.few.Few.sum.Given as goal

abbrev pub invariant-loop-reach : goal.invariant-loop-reach
invariant-loop-reach g l = goal.F-IsAlwaysCallable g l.amount × Summed (goal.F-post g l.amount) l.reach l.sum
