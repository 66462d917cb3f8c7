use Rattle.std.proofs.Common.{◌≡◌}
use Rattle.scheme.specs.Scheme.{over, flowing}
use Rattle.scheme.proofs.Changes.{changed_to}
use Rattle.scheme.proofs.clearing.clear_flows.Given as goal

abbrev pub invariant-loop-reach : goal.invariant-loop-reach
invariant-loop-reach g l =
    let s = g.B.Register.scheme l.initial.book in
    (g.B.Register.scheme l.book ≡ over s (changed_to (flowing 0) l.reach s.reaches))
    × (g.B.Book.kept l.book ≡ g.B.Book.kept l.initial.book)
