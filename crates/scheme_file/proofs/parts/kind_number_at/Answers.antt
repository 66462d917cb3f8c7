use Rattle.std.proofs.Common.{◌∙◌}
use Rattle.scheme_file.proofs.Behind.{kind_behind}
use Rattle.scheme_file.proofs.parts.kind_number_at.Goals as goal

pub returns : goal.returns
returns c = c.get_u16.ensures ∙ kind_behind c.args.bytes.now c.args.at
