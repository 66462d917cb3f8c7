use Rattle.scheme.proofs.Cuts.{value_within}
use Rattle.flows.proofs.sides.no_value_exceeds_a_side.Goals as goal

pub returns : goal.returns
returns c = value_within
