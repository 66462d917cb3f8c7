use Rattle.layers.proofs.TurnedFlows.{value_as_below}
use Rattle.layers.proofs.turn_laws.turning_keeps_value.Goals as goal

pub returns : goal.returns
returns c = value_as_below
