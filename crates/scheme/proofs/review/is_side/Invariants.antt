use Rattle.std.proofs.Common.{ℕ, ◌<◌}
use Rattle.scheme.proofs.Sides.{Fits}
use Rattle.scheme.proofs.review.is_side.Given as goal

abbrev pub invariant-loop-point : goal.invariant-loop-point
invariant-loop-point g l = (v : ℕ) → v < l.point → Fits (g.R.Register.scheme l.register) l.marks v
