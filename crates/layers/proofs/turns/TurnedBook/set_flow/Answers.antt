use Rattle.std.proofs.Common.{refl, ap, ◌∙◌}
use Rattle.scheme.specs.Scheme.{flowing}
use Rattle.layers.specs.Turns.{turned}
use Rattle.layers.proofs.Mapped.{turned_changed}
use Rattle.layers.proofs.turns.TurnedBook.set_flow.Goals as goal

pub returns-clause-after : goal.returns-clause-after
returns-clause-after g c =
    ap turned c.set_flow.ensures.after
    ∙ turned_changed (flowing c.args.flow) (λ r. refl) (g.B.Register.scheme c.args.self.now.below) c.args.reach
