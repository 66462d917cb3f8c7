use Rattle.std.proofs.Common.{refl, rules, ap, vec_items}
use Rattle.solver.proofs.Replays.{round_answered}
use Rattle.solver.proofs.replaying.call_round.Goals as goal

pub returns-clause-does : goal.returns-clause-does
returns-clause-does g c =
    round_answered _ _ _ _ c.round.result _ (search rules) refl (ap vec_items c.round.ensures.marks) c.round.ensures.does
