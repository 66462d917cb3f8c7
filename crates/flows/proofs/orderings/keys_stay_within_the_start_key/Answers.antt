use Rattle.flows.proofs.Keys.{keys_within}
use Rattle.flows.proofs.orderings.keys_stay_within_the_start_key.Goals as goal

pub returns : goal.returns
returns c = keys_within
