use Rattle.flows.proofs.Examples.{worked}
use Rattle.flows.proofs.worked.worked_schemes_come_out.Goals as goal

pub returns : goal.returns
returns c = worked
