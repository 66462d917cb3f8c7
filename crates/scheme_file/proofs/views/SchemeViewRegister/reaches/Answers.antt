use Rattle.std.proofs.Common.{sym, ◌∙◌}
use Rattle.scheme_file.proofs.RowLists.{length_rows}
use Rattle.scheme_file.proofs.views.SchemeViewRegister.reaches.Goals as goal

pub returns : goal.returns
returns c = c.held.ensures ∙ sym (length_rows _ _ _)
