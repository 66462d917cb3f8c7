use Rattle.std.proofs.Common.{◌≡◌, ◌<◌, length, sym, ap, ◌∙◌, arith, to_z, w64}
use lib.IntN.{sub_ℕ}
use Rattle.scheme.specs.Flow.{inflow, outflow}
use Rattle.scheme.specs.Questions.{steady, first_point}
use Rattle.scheme.specs.Bounds.{most_reaches}
use Rattle.scheme.proofs.Amounts.{gains_come_to, summed_next, steady_told}
use Rattle.scheme.proofs.Searches.{point_here, point_later}
use Rattle.scheme.proofs.questions.first_unbalanced.Goals as goal

pub loop-reach-preserved : goal.loop-reach-preserved
loop-reach-preserved g c =
    let few : c.loop-reach.reach < most_reaches = omega (arith, c.reaches-count.ensures, c.args.few.now.few) in
    summed_next _ _ _ _ _ few c.loop-reach.invariant c.gain_of.ensures.gain c.unwrap_or-gain.ensures c.gain_of.ensures.small

pub points-preserved : goal.points-preserved
points-preserved g c =
    let s = g.R.Register.scheme c.args.few.now.register.now in
    let v = c.points.point in
    let bits = c.loop-reach.gain-bits in
    let last : c.loop-reach.reach ≡ length s.reaches = omega (arith, c.reaches-count.ensures) in
    let gain : to_z w64 bits ≡ sub_ℕ (outflow s v) (inflow s v) = gains_come_to _ s _ _ last c.loop-reach.invariant.adds v (λ k x e. e) in
    let stands : steady s v ≡ c.point_stands.result = steady_told s v _ _ _ _ c.inlet-inlet.ensures c.outlet-outlet.ensures gain c.point_stands.ensures in
    (c.points.invariant.0, point_later (steady s) c.points-points.result v c.points-test.true (stands ∙ c.if-not-point_stands.false) ∙ c.points.invariant.1)

pub returns-then-not-point_stands : goal.returns-then-not-point_stands
returns-then-not-point_stands g c =
    let s = g.R.Register.scheme c.args.few.now.register.now in
    let v = c.points.point in
    let bits = c.loop-reach.gain-bits in
    let last : c.loop-reach.reach ≡ length s.reaches = omega (arith, c.reaches-count.ensures) in
    let gain : to_z w64 bits ≡ sub_ℕ (outflow s v) (inflow s v) = gains_come_to _ s _ _ last c.loop-reach.invariant.adds v (λ k x e. e) in
    let stands : steady s v ≡ c.point_stands.result = steady_told s v _ _ _ _ c.inlet-inlet.ensures c.outlet-outlet.ensures gain c.point_stands.ensures in
    sym (point_here (steady s) c.points-points.result v c.points-test.true (stands ∙ c.if-not-point_stands.true)) ∙ c.points.invariant.1 ∙ ap (first_point (steady s) 0) c.points-points.ensures
