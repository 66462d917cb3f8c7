use Rattle.flows.proofs.Gaps.{rounds_close}
use Rattle.flows.proofs.rounds.rounds_close_the_gap.Goals as goal

pub returns : goal.returns
returns c = rounds_close
