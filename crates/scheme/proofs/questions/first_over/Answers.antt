use Rattle.std.proofs.Common.{arith, rules, tests}
use Rattle.std.proofs.lemmas.Iterator.{first_from_Range}
use Rattle.scheme.specs.Questions.{carries}
use Rattle.scheme.specs.Scheme.{no_reach}
use Rattle.scheme.proofs.Searches.{Fails, first_found}
use Rattle.scheme.proofs.questions.first_over.Goals as goal

pub returns : goal.returns
returns g c =
    let rs = (g.R.Register.scheme c.args.register.now).reaches in
    let p = carries in
    let found = first_from_Range _ _ _ c.find.result (Fails p rs) (λ k. Fails p rs k → ⊥) c.find.ensures.ran (λ k f called. search (rules, tests)) (λ k f called. (search rules, search (rules, tests))) in
    first_found p rs no_reach 0 _ _ c.reaches.ensures (omega arith) found
