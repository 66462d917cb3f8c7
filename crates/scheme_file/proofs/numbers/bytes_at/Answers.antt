use Rattle.std.proofs.Common.{◌+◌, slice_index, rules}
use Rattle.std.proofs.lemmas.List.FromFn.{fill_by_all}
use Rattle.scheme_file.proofs.numbers.bytes_at.Goals as goal

pub returns : goal.returns
returns g c =
    fill_by_all (λ k. slice_index c.args.bytes.now (c.args.at + k)) c.loop-k.byte-items g.row.N 0 c.loop-k.invariant.long (search rules)
