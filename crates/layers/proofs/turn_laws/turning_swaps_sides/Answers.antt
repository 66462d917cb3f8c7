use Rattle.layers.proofs.TurnedFlows.{side_if_rest_is, capacity_of_rest}
use Rattle.layers.proofs.turn_laws.turning_swaps_sides.Goals as goal

pub returns : goal.returns
returns c = record { sides = side_if_rest_is; capacities = capacity_of_rest }
