use Rattle.std.proofs.Common.{ap, ◌∙◌}
use Rattle.pick.specs.Calls.{greatest_key}
use Rattle.pick.specs.Calls.{after_raise}
use Rattle.solver.proofs.Held.{inlet_can_be_taken, inlet_taken, inlet_held}
use Rattle.solver.proofs.ordering.take_inlet.Goals as goal

pub take_greatest-requires : goal.take_greatest-requires
take_greatest-requires g c =
    let s = g.R.Register.scheme c.args.register.now in
    let ks = g.P.Pick.held c.args.pick.now in
    let raises = c.raise.ensures.after ∙ ap (λ v. after_raise ks v greatest_key) c.inlet.ensures in
    inlet_can_be_taken s ks _ c.requires.formed c.requires.begun c.requires.room raises

pub returns-clause-inlet : goal.returns-clause-inlet
returns-clause-inlet g c =
    let s = g.R.Register.scheme c.args.register.now in
    let ks = g.P.Pick.held c.args.pick.now in
    let raises = c.raise.ensures.after ∙ ap (λ v. after_raise ks v greatest_key) c.inlet.ensures in
    inlet_taken s ks _ c.requires.formed c.requires.begun c.requires.room raises _ _ _ c.take_greatest.ensures.taken

pub returns-clause-after : goal.returns-clause-after
returns-clause-after g c =
    let s = g.R.Register.scheme c.args.register.now in
    let ks = g.P.Pick.held c.args.pick.now in
    let raises = c.raise.ensures.after ∙ ap (λ v. after_raise ks v greatest_key) c.inlet.ensures in
    inlet_held s ks _ c.requires.formed c.requires.begun c.requires.room raises _ _ _ c.take_greatest.ensures.taken
