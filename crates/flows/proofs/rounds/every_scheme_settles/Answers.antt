use Rattle.flows.proofs.Chains.{every_settles}
use Rattle.flows.proofs.rounds.every_scheme_settles.Goals as goal

pub returns : goal.returns
returns c = every_settles
