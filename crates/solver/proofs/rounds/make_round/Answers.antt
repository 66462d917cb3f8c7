use Rattle.solver.proofs.Ordered.{gain_asks, round_works}
use Rattle.solver.proofs.rounds.make_round.Goals as goal

pub push_gain-requires : goal.push_gain-requires
push_gain-requires g c =
    gain_asks c.make_ordering-told.ensures.made c.args.need.now c.requires.to_order c.requires.needed

pub returns-clause-works : goal.returns-clause-works
returns-clause-works g c = round_works c.make_ordering-told.ensures.made c.push_gain.ensures.flows c.push_gain.ensures.need
