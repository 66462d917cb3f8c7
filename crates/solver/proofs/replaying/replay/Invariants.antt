use Rattle.std.proofs.Common.{◌≡◌, drop}
use Rattle.solver.specs.History.{view_of}
use Rattle.solver.proofs.Replays.{Reached}
use Rattle.solver.proofs.replaying.replay.Given as goal

-- The calls before the index were made, one after another; the others are as they came.
abbrev pub invariant-loop-ask : goal.invariant-loop-ask
invariant-loop-ask g l =
    Reached (view_of g.P.Pick.held) l.initial.asks l.asks l.ask-index
    (g.B.Register.scheme l.initial.book) (g.B.Register.scheme l.book)
    × (drop l.ask-index l.asks ≡ drop l.ask-index l.initial.asks)
    × (g.B.Book.kept l.book ≡ g.B.Book.kept l.initial.book)
