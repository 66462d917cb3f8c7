use Rattle.solver.proofs.Histories.{histories_keep_the_law}
use Rattle.solver.proofs.laws.every_history_keeps_the_law.Goals as goal

pub returns : goal.returns
returns c = histories_keep_the_law
