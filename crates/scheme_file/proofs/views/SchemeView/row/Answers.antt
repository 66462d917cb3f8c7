use Rattle.std.proofs.Common.{arith}
use Rattle.scheme_file.proofs.RowLists.{nth_rows, nth_rows_past}
use Rattle.scheme_file.proofs.views.SchemeView.row.Goals as goal

pub returns-then-reach-held-clause-row : goal.returns-then-reach-held-clause-row
returns-then-reach-held-clause-row c = nth_rows_past _ _ _ c.args.reach (omega arith)

pub returns-clause-row : goal.returns-clause-row
returns-clause-row c = nth_rows _ _ _ c.args.reach (omega arith)
