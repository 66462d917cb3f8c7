use Rattle.std.proofs.Common.{◌≡◌, [], ◌∷◌}
use Rattle.scheme.specs.Crossings.{left_out}
use Rattle.scheme.specs.Flow.{among}
use Rattle.pick.specs.Keys.{size}
use Rattle.solver.specs.Ready.{Ready}
use Rattle.solver.specs.Work.{work_of}
use Rattle.solver.proofs.Running.{Running}
use Rattle.solver.proofs.settling.settle_rounds.Given as goal

abbrev pub invariant-loop-rounds : goal.invariant-loop-rounds
invariant-loop-rounds g l =
    Running (g.B.Register.scheme l.initial.book) (work_of l.initial.order l.initial.place l.initial.need) l.rounds
    (g.B.Register.scheme l.book) (work_of l.order l.place l.need)
    × Ready (g.B.Register.scheme l.book) (work_of l.order l.place l.need) (g.P.Pick.held l.pick)
    × (size (g.P.Pick.held l.pick) ≡ size (g.P.Pick.held l.initial.pick))
    × (g.B.Book.kept l.book ≡ g.B.Book.kept l.initial.book)

-- every round that gains leaves less out of the inlet
abbrev pub decreases-loop-rounds : goal.decreases-loop-rounds
decreases-loop-rounds g l =
    left_out (g.B.Register.scheme l.book) (among ((g.B.Register.scheme l.initial.book).inlet ∷ []))
