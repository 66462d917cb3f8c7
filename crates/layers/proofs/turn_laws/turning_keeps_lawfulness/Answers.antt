use Rattle.layers.proofs.TurnedFlows.{lawful_above_as_below}
use Rattle.layers.proofs.turn_laws.turning_keeps_lawfulness.Goals as goal

pub returns : goal.returns
returns c = lawful_above_as_below
