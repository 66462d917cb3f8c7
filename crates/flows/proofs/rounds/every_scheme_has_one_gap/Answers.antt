use Rattle.flows.proofs.Chains.{one_gap}
use Rattle.flows.proofs.rounds.every_scheme_has_one_gap.Goals as goal

pub returns : goal.returns
returns c = one_gap
