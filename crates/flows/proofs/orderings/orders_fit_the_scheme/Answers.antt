use Rattle.flows.proofs.Fits.{orders_fit}
use Rattle.flows.proofs.orderings.orders_fit_the_scheme.Goals as goal

pub returns : goal.returns
returns c = orders_fit
