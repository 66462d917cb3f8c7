use Rattle.std.proofs.Common.{cond, eqb, refl, ap, ◌∙◌}
use Rattle.solver.proofs.Stages.{staged_none, point_asks, staged_more, staged_all}
use Rattle.solver.proofs.pushing.push_order.Goals as goal

pub loop-point-init : goal.loop-point-init
loop-point-init g c =
    let iterator = c.into_iter-point-iterator.ensures.into_iter_gives in
    let rest = ap (λ i. i.iter.rest.now) iterator ∙ ap (λ i. i.rest.now) c.rev-point-items.ensures.source ∙ c.iter.ensures.rest in (
      staged_none c.requires c.first_needs.new.need _
          (λ w. c.first_needs.ensures w ∙ ap (λ o. cond (eqb o w) c.args.gain 0) c.outlet.ensures) rest,
      refl,
    )

pub push_point-requires : goal.push_point-requires
push_point-requires g c =
    point_asks c.requires c.loop-point.invariant.0 _ _ c.in-Some.ensures.steps (c.loop-point.auto.need ∙ c.first_needs.auto.need)

pub loop-point-preserved : goal.loop-point-preserved
loop-point-preserved g c = (
  staged_more c.requires c.loop-point.invariant.0 _ _ c.in-Some.ensures.steps _ _ c.push_point.ensures.flows c.push_point.ensures.needs,
  c.push_point.ensures.kept ∙ c.loop-point.invariant.1,
)

pub returns : goal.returns
returns g c =
    let long = c.loop-point.auto.need ∙ c.first_needs.auto.need in
    let done = staged_all c.requires c.loop-point.invariant.0 c.in-None.ensures.steps.0 long in
    record { flows = done.0; needs = done.1; kept = c.loop-point.invariant.1 }
