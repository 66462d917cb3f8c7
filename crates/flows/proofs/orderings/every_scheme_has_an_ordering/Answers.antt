use Rattle.flows.proofs.Searches.{has_ordering}
use Rattle.flows.proofs.orderings.every_scheme_has_an_ordering.Goals as goal

pub returns : goal.returns
returns c = has_ordering
