use Rattle.std.proofs.Common.{length, sym, refl, ◌∙◌, w64, SFits, rules}
use Rattle.std.proofs.lemmas.Int.{to_z-of_z}
use Rattle.flows.proofs.Told.{counted}
use Rattle.flows.proofs.Chains.{chains_bounded}
use Rattle.solver.specs.Calls.{SettleMade}
use Rattle.solver.specs.Work.{work_of}
use Rattle.solver.proofs.Holding.{ready}
use Rattle.solver.proofs.OwnLaws.{settle_keeps}
use Rattle.solver.proofs.settling.settle.Goals as goal

pub settle_rounds-rounds-requires : goal.settle_rounds-rounds-requires
settle_rounds-rounds-requires g c = ready _ _ _ _ (sym c.in_ok-ask_ordering.ensures.answer) c.ask_ordering.ensures.size

-- what the rounds leave is well formed, so its reaches are few
pub invariant_of-value : goal.invariant_of-value
invariant_of-value g c =
    let s = g.B.Register.scheme c.args.book.now in
    let ks = g.P.Pick.held c.args.pick.now in
    let w = work_of c.args.order.now c.args.place.now c.args.need.now in
    let t = g.B.Register.scheme c.settle_rounds-rounds.new.book in
    let works = c.settle_rounds-rounds.ensures.works in
    let r = (ready s w ks ks (sym c.in_ok-ask_ordering.ensures.answer) refl).to_order in
    record { few = (chains_bounded s t (length works.0) r.formed r.lawful (counted works.2.run.chain)).formed.few_reaches }

pub returns : goal.returns
returns g c =
    let works = c.settle_rounds-rounds.ensures.works in
    let fits : SFits w64 c.value-value.result = search rules in
    let made : SettleMade (g.B.Register.scheme c.args.book.now) (work_of c.args.order.now c.args.place.now c.args.need.now) (g.P.Pick.held c.args.pick.now) works.0 _ _ _ _ _ =
    record {
      asked = sym c.in_ok-ask_ordering.ensures.answer;
      works = works.2;
      valued = to_z-of_z w64 c.value-value.result fits ∙ c.value-value.ensures;
      counted = works.1;
      size_stays = c.settle_rounds-rounds.ensures.size ∙ c.ask_ordering.ensures.size;
    }
    in
    record { does = (works.0, made); law = settle_keeps made; kept = c.settle_rounds-rounds.ensures.kept }
