use Rattle.std.proofs.Common.{refl, ◌∙◌, arith}
use Rattle.solver.specs.Work.{work_of}
use Rattle.solver.proofs.Ordered.{ready_after}
use Rattle.solver.proofs.Running.{at_start, countable, round_more, round_last, less_left}
use Rattle.solver.proofs.settling.settle_rounds.Goals as goal

pub loop-rounds-init : goal.loop-rounds-init
loop-rounds-init g c = (
  at_start (g.B.Register.scheme c.args.book.now) (work_of c.args.order.now c.args.place.now c.args.need.now),
  c.requires,
  refl,
  refl,
)

pub overflow_add-rounds : goal.overflow_add-rounds
overflow_add-rounds g c =
    omega (arith, countable c.requires.to_order.formed c.requires.to_order.lawful c.loop-rounds.invariant.0)

pub loop-rounds-smaller : goal.loop-rounds-smaller
loop-rounds-smaller g c =
    less_left c.requires.to_order.formed c.requires.to_order.lawful c.loop-rounds.invariant.0 c.make_round.ensures.works
    c.loop-rounds-test.true

pub loop-rounds-preserved : goal.loop-rounds-preserved
loop-rounds-preserved g c =
    let so_far = c.loop-rounds.invariant in
    let made = c.make_round.ensures in (
      round_more c.requires.to_order.formed c.requires.to_order.lawful so_far.0 made.works c.loop-rounds-test.true,
      ready_after so_far.1 made.works made.size,
      made.size ∙ so_far.2,
      made.kept ∙ so_far.3,
    )

pub returns-clause-works : goal.returns-clause-works
returns-clause-works g c =
    let run = c.loop-rounds.invariant.0 in (
      run.rounds,
      run.counted,
      round_last c.requires.to_order.formed c.requires.to_order.lawful run c.make_round.ensures.works
          (omega (arith, c.loop-rounds-test.false)),
    )
