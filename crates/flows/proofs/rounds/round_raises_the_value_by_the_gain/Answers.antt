use Rattle.flows.proofs.Gaps.{round_raises}
use Rattle.flows.proofs.rounds.round_raises_the_value_by_the_gain.Goals as goal

pub returns : goal.returns
returns c = round_raises
