use Rattle.layers.proofs.TurnedFlows.{greatest_as_below}
use Rattle.layers.proofs.turn_laws.turning_keeps_greatest_value.Goals as goal

pub returns : goal.returns
returns c = greatest_as_below
