use Rattle.std.proofs.Common.{sym, refl, ap, ◌∙◌, arith}
use Rattle.solver.specs.Raises.{other_end, left_from_point}
use Rattle.solver.proofs.Raised.{grown_none, grown_again, grown_all}
use Rattle.solver.proofs.Touching.{next_is}
use Rattle.solver.proofs.raising.raise_neighbours.Goals as goal

pub loop-reach-init : goal.loop-reach-init
loop-reach-init g c =
    (omega arith, grown_none (g.R.Register.scheme c.args.register.now).reaches c.args.point (g.P.Pick.held c.args.pick.now), refl)

pub overflow_add-from : goal.overflow_add-from
overflow_add-from g c =
    let rs = (g.R.Register.scheme c.args.register.now).reaches in
    let next = next_is rs c.args.point c.loop-reach.from c.in-Some.reach (sym c.in-Some.ensures) in
    omega (arith, next.within, c.requires.formed.few_reaches)

pub loop-reach-smaller : goal.loop-reach-smaller
loop-reach-smaller g c =
    let rs = (g.R.Register.scheme c.args.register.now).reaches in
    let next = next_is rs c.args.point c.loop-reach.from c.in-Some.reach (sym c.in-Some.ensures) in
    omega (arith, next.within, next.from)

pub loop-reach-preserved : goal.loop-reach-preserved
loop-reach-preserved g c =
    let rs = (g.R.Register.scheme c.args.register.now).reaches in
    let ks = g.P.Pick.held c.args.pick.now in
    let found = sym c.in-Some.ensures in
    let next = next_is rs c.args.point c.loop-reach.from c.in-Some.reach found in
    let ends = c.left_from-other.ensures in
    let row = c.read_reach.ensures in (
      omega (arith, next.within),
      grown_again rs c.args.point ks _ _ c.loop-reach.from c.in-Some.reach _ _ c.requires.inside c.requires.room found
          c.loop-reach.invariant.1 (ends.end ∙ ap (other_end c.args.point) row) (ends.left ∙ ap (left_from_point c.args.point) row) c.raise.ensures.after,
      c.raise.ensures.size ∙ c.loop-reach.invariant.2,
    )

pub returns-clause-grown : goal.returns-clause-grown
returns-clause-grown g c =
    let so_far = c.loop-reach.invariant in
    grown_all (g.R.Register.scheme c.args.register.now).reaches c.args.point (g.P.Pick.held c.args.pick.now) _ _ so_far.0
    (sym c.in_default.ensures) so_far.1
