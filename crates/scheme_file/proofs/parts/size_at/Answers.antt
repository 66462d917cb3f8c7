use Rattle.std.proofs.Common.{◌∙◌}
use Rattle.scheme_file.proofs.Behind.{size_behind}
use Rattle.scheme_file.proofs.parts.size_at.Goals as goal

pub returns : goal.returns
returns c = c.get_u32.ensures ∙ size_behind c.args.bytes.now c.args.at
