use Rattle.std.proofs.Common.{rules, tests}
use Rattle.std.proofs.lemmas.Iterator.{first_from_Range}
use Rattle.solver.proofs.Touching.{Touches, as_searched}
use Rattle.solver.proofs.joining.next_touching.Goals as goal

pub returns : goal.returns
returns g c =
    let rs = (g.R.Register.scheme c.args.register.now).reaches in
    let v = c.args.point in
    as_searched rs v c.args.from c.reaches.result c.find.result c.reaches.ensures
    (first_from_Range _ _ _ c.find.result (Touches rs v) (λ k. Touches rs v k → ⊥) c.find.ensures.ran
    (λ k f called. search (rules, tests))
    (λ k f called. (search rules, search (rules, tests))))
