use Rattle.flows.proofs.Gaps.{gains_while_gap}
use Rattle.flows.proofs.rounds.round_gains_while_there_is_a_gap.Goals as goal

pub returns : goal.returns
returns c = gains_while_gap
