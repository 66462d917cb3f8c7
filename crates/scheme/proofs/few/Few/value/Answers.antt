use Rattle.std.proofs.Common.{refl, ap, ◌∙◌, rules, w64, SFits}
use lib.IntN.{sub_ℕ}
use Rattle.std.proofs.lemmas.Int.{to_z-of_z}
use Rattle.scheme.specs.Flow.{inflow, outflow}
use Rattle.scheme.proofs.Amounts.{gains_come_to}
use Rattle.scheme.proofs.few.Few.value.Goals as goal

pub returns : goal.returns
returns g c =
    let s = g.R.Register.scheme c.args.self.now.register.now in
    let fits : SFits w64 c.sum.result = search rules in
    to_z-of_z w64 _ fits
    ∙ gains_come_to _ s _ c.sum.result refl c.sum.ensures c.inlet-inlet.result (λ k x p. search rules)
    ∙ ap (λ v. sub_ℕ (outflow s v) (inflow s v)) c.inlet-inlet.ensures
