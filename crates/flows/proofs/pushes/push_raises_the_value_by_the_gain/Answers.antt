use Rattle.flows.proofs.WholePush.{push_raises}
use Rattle.flows.proofs.pushes.push_raises_the_value_by_the_gain.Goals as goal

pub returns : goal.returns
returns c = push_raises
