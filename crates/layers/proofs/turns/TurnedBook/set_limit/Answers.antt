use Rattle.std.proofs.Common.{refl, ap, ◌∙◌}
use Rattle.scheme.specs.Scheme.{limited}
use Rattle.layers.specs.Turns.{turned}
use Rattle.layers.proofs.Mapped.{turned_changed}
use Rattle.layers.proofs.turns.TurnedBook.set_limit.Goals as goal

pub returns-clause-after : goal.returns-clause-after
returns-clause-after g c =
    ap turned c.set_limit.ensures.after
    ∙ turned_changed (limited c.args.limit) (λ r. refl) (g.B.Register.scheme c.args.self.now.below) c.args.reach
