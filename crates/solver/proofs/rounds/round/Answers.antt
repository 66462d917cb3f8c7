use Rattle.std.proofs.Common.{sym, ◌∙◌}
use Rattle.solver.specs.Calls.{RoundMade}
use Rattle.solver.specs.Work.{work_of}
use Rattle.solver.proofs.Holding.{ready}
use Rattle.solver.proofs.OwnLaws.{round_keeps}
use Rattle.solver.proofs.rounds.round.Goals as goal

pub make_round-requires : goal.make_round-requires
make_round-requires g c = ready _ _ _ _ (sym c.in_ok-ask_ordering.ensures.answer) c.ask_ordering.ensures.size

pub returns-clause-law : goal.returns-clause-law
returns-clause-law g c =
    let s = g.B.Register.scheme c.args.book.now in
    let ks = g.P.Pick.held c.args.pick.now in
    let made : RoundMade s (work_of c.args.order.now c.args.place.now c.args.need.now) ks _ _ _ _ _ =
    record {
      asked = sym c.in_ok-ask_ordering.ensures.answer;
      works = c.make_round.ensures.works;
      size_stays = c.make_round.ensures.size ∙ c.ask_ordering.ensures.size;
    }
    in
    round_keeps made
