use Rattle.scheme.proofs.Cuts.{value_crosses}
use Rattle.flows.proofs.sides.value_crosses_each_side.Goals as goal

pub returns : goal.returns
returns c = value_crosses
