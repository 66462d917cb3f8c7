use Rattle.std.proofs.Common.{arith}
use Rattle.std.proofs.lemmas.Bool.Decides.{nat_tests}
use Rattle.scheme.specs.Marks.{sided}
use Rattle.scheme.proofs.Sides.{answers_yes, answers_no, sided_decides, side_fits, fits_side}
use Rattle.scheme.proofs.review.is_side.Goals as goal

pub returns : goal.returns
returns g c =
    let s = g.R.Register.scheme c.args.register.now in
    let marks = c.args.marks.now in
    answers_yes (sided s marks) (sided_decides s marks) (fits_side s marks (omega arith) c.requires.inlet_is_point c.requires.outlet_is_point (λ v within. c.loop-point.invariant v (omega arith)))

pub returns-then-mark-gt1 : goal.returns-then-mark-gt1
returns-then-mark-gt1 g c =
    let s = g.R.Register.scheme c.args.register.now in
    let marks = c.args.marks.now in
    answers_no (sided s marks) (sided_decides s marks) (λ side. let fits = side_fits s marks side c.loop-point.point (omega arith) in grind (arith, nat_tests))
