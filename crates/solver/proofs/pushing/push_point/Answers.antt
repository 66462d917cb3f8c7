use Rattle.std.proofs.Common.{sym, refl, ◌∙◌, arith}
use Rattle.solver.proofs.ReachByReach.{reached_none, found, jump, ended, reach_asks, reached_more}
use Rattle.solver.proofs.pushing.push_point.Goals as goal

pub loop-reach-init : goal.loop-reach-init
loop-reach-init g c = (reached_none _ _ _ _, refl)

pub push_reach-requires : goal.push_reach-requires
push_reach-requires g c =
    let next = sym c.in-Some.ensures in
    let is = found c.loop-reach.invariant.0 c.in-Some.reach next in
    let here = jump c.loop-reach.invariant.0 c.in-Some.reach next in
    reach_asks here is.within c.requires c.loop-reach.auto.need

pub overflow_add-from : goal.overflow_add-from
overflow_add-from g c =
    let is = found c.loop-reach.invariant.0 c.in-Some.reach (sym c.in-Some.ensures) in
    omega (arith, is.within, c.requires.formed.few_reaches)

pub loop-reach-smaller : goal.loop-reach-smaller
loop-reach-smaller g c =
    let is = found c.loop-reach.invariant.0 c.in-Some.reach (sym c.in-Some.ensures) in
    omega (arith, is.within, is.from)

pub loop-reach-preserved : goal.loop-reach-preserved
loop-reach-preserved g c =
    let next = sym c.in-Some.ensures in
    let is = found c.loop-reach.invariant.0 c.in-Some.reach next in
    let here = jump c.loop-reach.invariant.0 c.in-Some.reach next in (
      reached_more here is.within _ _ c.push_reach.ensures.flows c.push_reach.ensures.needs,
      c.push_reach.ensures.kept ∙ c.loop-reach.invariant.1,
    )

pub returns : goal.returns
returns g c =
    let end = ended c.loop-reach.invariant.0 (sym c.in_default.ensures) in
    record { flows = end.0; needs = end.1; kept = c.loop-reach.invariant.1 }
