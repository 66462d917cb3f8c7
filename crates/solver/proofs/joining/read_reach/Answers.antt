use Rattle.std.proofs.Common.{rules}
use Rattle.std.proofs.lemmas.Option.{unwrap_or-slice_get}
use Rattle.solver.proofs.joining.read_reach.Goals as goal

pub returns : goal.returns
returns g c = search (rules, unwrap_or-slice_get)
