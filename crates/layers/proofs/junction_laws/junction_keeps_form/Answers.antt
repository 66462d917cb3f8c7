use Rattle.layers.proofs.SplitLaws.{well_formed_above}
use Rattle.layers.proofs.junction_laws.junction_keeps_form.Goals as goal

pub returns : goal.returns
returns c = well_formed_above
