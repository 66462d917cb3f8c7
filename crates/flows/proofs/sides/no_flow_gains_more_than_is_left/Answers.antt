use Rattle.scheme.proofs.Cuts.{relaid_gain}
use Rattle.flows.proofs.sides.no_flow_gains_more_than_is_left.Goals as goal

pub returns : goal.returns
returns c = relaid_gain
