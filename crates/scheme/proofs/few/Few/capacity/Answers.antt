use Rattle.std.proofs.Common.{◌≡◌, pos, refl, ap, ◌∙◌, arith, rules, to_z, of_z, w64, SFits}
use lib.IntN.{nat_abs}
use Rattle.std.proofs.lemmas.Int.{ints, to_z-of_z}
use Rattle.scheme.specs.Flow.{capacity}
use Rattle.scheme.specs.Marks.{marked}
use Rattle.scheme.proofs.Amounts.{limits_come_to}
use Rattle.scheme.proofs.few.Few.capacity.Goals as goal

pub overflow_cast-result : goal.overflow_cast-result
overflow_cast-result g c =
    let s = g.R.Register.scheme c.args.self.now.register.now in
    let fits : SFits w64 c.sum.result = search rules in
    let sum = limits_come_to _ s _ c.sum.result refl c.sum.ensures (marked c.args.marks.now) (λ k x p. search rules) in
    let e : to_z w64 (of_z w64 c.sum.result) ≡ pos (capacity s (marked c.args.marks.now)) = to_z-of_z w64 _ fits ∙ sum in
    (rw e tt, rw e (omega (arith, ints, sum)))

pub returns : goal.returns
returns g c =
    let s = g.R.Register.scheme c.args.self.now.register.now in
    let fits : SFits w64 c.sum.result = search rules in
    ap nat_abs (to_z-of_z w64 _ fits ∙ limits_come_to _ s _ c.sum.result refl c.sum.ensures (marked c.args.marks.now) (λ k x p. search rules))
