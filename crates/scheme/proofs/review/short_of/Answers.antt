use Rattle.std.proofs.Common.{Some, ap, ◌∙◌}
use Rattle.std.specs.Option.{option_map}
use Rattle.scheme.specs.Marks.{marked}
use Rattle.scheme.specs.Sums.{short}
use Rattle.scheme.proofs.Amounts.{short_read}
use Rattle.scheme.proofs.review.short_of.Goals as goal

pub returns : goal.returns
returns g c =
    let row = c.in_ok-row.row in
    let read = short_read c.args.inlet (marked c.args.marks.now) row c.gain.result c.leaving.result c.gain.ensures.gain c.leaving.ensures.leaving c.gain.ensures.small c.leaving.ensures.small in
    record { short = ap Some read.0 ∙ ap (option_map (short c.args.inlet (marked c.args.marks.now))) c.in_ok-row.ensures; small = read.1 }
