use Rattle.layers.proofs.SplitLaws.{extends_above}
use Rattle.layers.proofs.junction_laws.flow_within_gates_extends_above.Goals as goal

pub returns : goal.returns
returns c = extends_above
