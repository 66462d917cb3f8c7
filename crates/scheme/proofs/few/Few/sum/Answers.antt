use Rattle.std.proofs.Common.{◌<◌, arith}
use Rattle.scheme.specs.Bounds.{most_reaches}
use Rattle.scheme.proofs.Amounts.{summed_next}
use Rattle.scheme.proofs.few.Few.sum.Goals as goal

pub loop-reach-preserved : goal.loop-reach-preserved
loop-reach-preserved g c =
    let few : c.loop-reach.reach < most_reaches = omega (arith, c.reaches-reach-end.ensures, c.args.self.now.few) in
    let small = c.requires.small c.loop-reach.reach c.amount.result c.amount.ensures in
    (c.loop-reach.invariant.0, summed_next _ _ _ _ _ few c.loop-reach.invariant.1 c.amount.ensures c.unwrap_or-sum.ensures small)
