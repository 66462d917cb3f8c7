use Rattle.layers.proofs.TurnedFlows.{well_formed_as_below}
use Rattle.layers.proofs.turn_laws.turning_keeps_form.Goals as goal

pub returns : goal.returns
returns c = well_formed_as_below
