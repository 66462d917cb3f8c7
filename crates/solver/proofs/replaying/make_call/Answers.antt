use Rattle.solver.specs.History.{view_of}
use Rattle.solver.proofs.Replays.{answered_steps}
use Rattle.solver.proofs.replaying.make_call.Goals as goal

pub returns-clause-does : goal.returns-clause-does
returns-clause-does g c =
    let view = view_of g.P.Pick.held in
    answered_steps _ _ (view c.args.ask.now) (view c.answer_call-answer.new.ask) _ c.answer_call-answer.ensures.does
