use Rattle.solver.proofs.NeedTables.{moved_table}
use Rattle.solver.proofs.pushing.move_need.Goals as goal

pub returns : goal.returns
returns c =
    let table = moved_table c.args.need.now c.args.amount c.args.point c.args.other c.requires.inside.0 c.requires.inside.1 c.requires.apart in
    cc table
