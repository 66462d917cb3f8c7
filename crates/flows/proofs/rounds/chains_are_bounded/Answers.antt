use Rattle.flows.proofs.Chains.{chains_bounded}
use Rattle.flows.proofs.rounds.chains_are_bounded.Goals as goal

pub returns : goal.returns
returns c = chains_bounded
