use Rattle.std.proofs.Common.{◌≡◌}
use Rattle.solver.proofs.Stages.{Staged}
use Rattle.solver.proofs.pushing.push_order.Given as goal

abbrev pub invariant-loop-point : goal.invariant-loop-point
invariant-loop-point g l =
    Staged (g.B.Register.scheme l.initial.book) l.order l.gain l.point-iterator.iter.rest.now (g.B.Register.scheme l.book) l.need
    × (g.B.Book.kept l.book ≡ g.B.Book.kept l.initial.book)
