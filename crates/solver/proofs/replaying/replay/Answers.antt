use Rattle.std.proofs.Common.{[], refl, ◌∙◌}
use Rattle.solver.specs.History.{view_of}
use Rattle.solver.specs.History.History.{done}
use Rattle.solver.proofs.Replays.{reached_more, reached_all}
use Rattle.solver.proofs.replaying.replay.Goals as goal

pub loop-ask-init : goal.loop-ask-init
loop-ask-init g c = (([], done), refl, refl)

pub loop-ask-preserved : goal.loop-ask-preserved
loop-ask-preserved g c =
    let so_far = c.loop-ask.invariant in
    let more =
    reached_more (view_of g.P.Pick.held) c.args.asks.now c.loop-ask.asks c.loop-ask.ask-index
    _ _ _ c.ask-item.result c.make_call.new.ask c.loop-ask-test.true c.loop-ask.auto.asks
    so_far.1 so_far.0 c.make_call.ensures.does
    in
    (more.0, more.1, c.make_call.ensures.kept ∙ so_far.2)

pub returns-clause-does : goal.returns-clause-does
returns-clause-does g c =
    reached_all (view_of g.P.Pick.held) c.args.asks.now c.loop-ask.asks c.loop-ask.ask-index
    _ _ _ c.in_ok-told.told c.loop-ask-test.false c.loop-ask.auto.asks
    c.in_ok-told.ensures.does c.loop-ask.invariant.0
