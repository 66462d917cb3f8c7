use Rattle.scheme_file.proofs.Behind.{header_behind, rest_is}
use Rattle.scheme_file.proofs.parts.behind_header.Goals as goal

pub returns : goal.returns
returns c = header_behind c.args.bytes.now c.args.at _ c.get.result (rest_is c.args.bytes.now c.args.at) c.requires c.get.ensures.lookup
