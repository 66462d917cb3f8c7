use Rattle.layers.proofs.SplitLaws.{greatest_as_under}
use Rattle.layers.proofs.junction_laws.junction_greatest_is_greatest_within_gates.Goals as goal

pub returns : goal.returns
returns c = greatest_as_under
