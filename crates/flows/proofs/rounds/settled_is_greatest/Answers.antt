use Rattle.flows.proofs.Chains.{settled_greatest}
use Rattle.flows.proofs.rounds.settled_is_greatest.Goals as goal

pub returns : goal.returns
returns c = settled_greatest
