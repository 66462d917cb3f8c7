use Rattle.flows.proofs.WholePush.{needs_within}
use Rattle.flows.proofs.pushes.needs_stay_within_the_gain.Goals as goal

pub returns : goal.returns
returns c = needs_within
