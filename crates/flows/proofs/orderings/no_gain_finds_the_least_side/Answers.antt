use Rattle.flows.proofs.Ends.{no_gain_least_side}
use Rattle.flows.proofs.orderings.no_gain_finds_the_least_side.Goals as goal

pub returns : goal.returns
returns c = no_gain_least_side
