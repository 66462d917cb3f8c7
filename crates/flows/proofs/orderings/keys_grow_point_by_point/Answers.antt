use Rattle.flows.proofs.Keys.{keys_grow}
use Rattle.flows.proofs.orderings.keys_grow_point_by_point.Goals as goal

pub returns : goal.returns
returns c = keys_grow
