use Rattle.layers.proofs.TurnedFlows.{turned_twice}
use Rattle.layers.proofs.turn_laws.turning_twice_restores.Goals as goal

pub returns : goal.returns
returns c = turned_twice
