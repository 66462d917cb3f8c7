-- The tables of a desk.
use Rattle.std.specs.Prelude.{vec_items}
use Rattle.solver.specs.declared.desks.Desk.{Desk}
use Rattle.solver.specs.Work.{Work, work_of}

-- the work tables that lie on it
abbrev pub tables_of : {P : Type 0} → Desk P → Work
tables_of d = work_of (vec_items d.order) (vec_items d.place) (vec_items d.need)
