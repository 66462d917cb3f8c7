use Rattle.std.proofs.Common.{◌≡◌, ◌-◌, length}
use Rattle.solver.proofs.ReachByReach.{Reached}
use Rattle.solver.proofs.pushing.push_point.Given as goal

abbrev pub invariant-loop-reach : goal.invariant-loop-reach
invariant-loop-reach g l =
    Reached (g.B.Register.scheme l.initial.book) l.place l.initial.need l.point l.from (g.B.Register.scheme l.book) l.need
    × (g.B.Book.kept l.book ≡ g.B.Book.kept l.initial.book)

abbrev pub decreases-loop-reach : goal.decreases-loop-reach
decreases-loop-reach g l = length (g.B.Register.scheme l.initial.book).reaches - l.from
