use Rattle.std.proofs.Common.{◌≡◌, ◌-◌, ◌≤◌, length, take}
use Rattle.pick.specs.Keys.{size}
use Rattle.solver.specs.Raises.{GrownFrom}
use Rattle.solver.proofs.raising.raise_neighbours.Given as goal

-- Grown along the reaches before `from`.
abbrev pub invariant-loop-reach : goal.invariant-loop-reach
invariant-loop-reach g l =
    let rs = (g.R.Register.scheme l.register).reaches in
    (l.from ≤ length rs)
    × GrownFrom l.point (take l.from rs) (g.P.Pick.held l.initial.pick) (g.P.Pick.held l.pick)
    × (size (g.P.Pick.held l.pick) ≡ size (g.P.Pick.held l.initial.pick))

abbrev pub decreases-loop-reach : goal.decreases-loop-reach
decreases-loop-reach g l = length (g.R.Register.scheme l.register).reaches - l.from
