use Rattle.std.proofs.Common.{◌+◌, refl, ap, ◌∙◌, rules, w64, SFits}
use lib.IntN.{sub_ℕ}
use Rattle.scheme.specs.Flow.{inflow, outflow, capacity}
use Rattle.scheme.specs.Marks.{marked}
use Rattle.scheme.proofs.Amounts.{shortage_comes_to, zero_tells}
use Rattle.scheme.proofs.Sides.{number_read}
use Rattle.scheme.proofs.few.Few.is_tight.Goals as goal

pub returns : goal.returns
returns g c =
    let s = g.R.Register.scheme c.args.self.now.register.now in
    let v = c.inlet-inlet.result in
    let x = marked c.args.marks.now in
    let fits : SFits w64 c.sum.result = search rules in
    let sum = shortage_comes_to _ s _ c.sum.result refl c.sum.ensures v x (λ k y p. search rules) in
    zero_tells _ _ c.sum.result fits (sum ∙ ap (λ v. sub_ℕ (outflow s v) (inflow s v + capacity s x)) c.inlet-inlet.ensures)
    ∙ number_read (outflow s s.inlet) (inflow s s.inlet) (capacity s x)
