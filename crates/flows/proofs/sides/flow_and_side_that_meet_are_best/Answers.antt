use Rattle.scheme.proofs.Cuts.{meet_best}
use Rattle.flows.proofs.sides.flow_and_side_that_meet_are_best.Goals as goal

pub returns : goal.returns
returns c = meet_best
