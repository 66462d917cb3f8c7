use Rattle.std.proofs.Common.{◌<◌, ◌≤◌, length, ap, ◌∙◌, arith}
use Rattle.scheme.specs.Scheme.{over, flowing, with_flow}
use Rattle.scheme.proofs.Changes.{changed_more, changed_all}
use Rattle.scheme.proofs.clearing.clear_flows.Goals as goal

pub loop-reach-preserved : goal.loop-reach-preserved
loop-reach-preserved g c =
    let s = g.B.Register.scheme c.args.book.now in
    let within : c.loop-reach.reach < length s.reaches = omega (arith, c.reaches-count.ensures) in (
      c.set_flow.ensures.after
          ∙ ap (λ t. with_flow t c.loop-reach.reach 0) c.loop-reach.invariant.0
          ∙ ap (over s) (changed_more (flowing 0) c.loop-reach.reach s.reaches within),
      c.set_flow.ensures.kept ∙ c.loop-reach.invariant.1,
    )

pub returns-clause-after : goal.returns-clause-after
returns-clause-after g c =
    let s = g.B.Register.scheme c.args.book.now in
    let past : length s.reaches ≤ c.loop-reach.reach = omega (arith, c.reaches-count.ensures) in
    c.loop-reach.invariant.0 ∙ ap (over s) (changed_all (flowing 0) c.loop-reach.reach s.reaches past)
