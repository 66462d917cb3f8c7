use Rattle.std.proofs.Common.{◌≡◌, ◌-◌}
use Rattle.pick.specs.Keys.{size}
use Rattle.solver.proofs.Underway.{Underway}
use Rattle.solver.proofs.ordering.take_the_rest.Given as goal

abbrev pub invariant-loop-point : goal.invariant-loop-point
invariant-loop-point g l =
    let s = g.R.Register.scheme l.register in
    let ks = g.P.Pick.held l.pick in
    Underway s l.initial.order l.initial.place ks l.last l.length l.least l.order l.place
    × (size ks ≡ size (g.P.Pick.held l.initial.pick))

abbrev pub decreases-loop-point : goal.decreases-loop-point
decreases-loop-point g l = (g.R.Register.scheme l.register).points - l.length
