use Rattle.std.proofs.Common.{get_or, set, refl, rules}
use Rattle.scheme.specs.Scheme.{flowing}
use Rattle.layers.specs.Junctions.{gate_flowing, shut}
use Rattle.layers.proofs.SiteWrites.{site_written}
use Rattle.layers.proofs.junctions.JunctionBook.set_flow.Goals as goal

pub returns-in_err-ok_or-clause-after : goal.returns-in_err-ok_or-clause-after
returns-in_err-ok_or-clause-after g c =
    let j = c.args.self.now in
    let s = g.B.Register.scheme j.below in
    let x = c.args.flow in
    site_written s j.gates c.args.reach (search rules) (flowing x) (gate_flowing x) (λ r. refl) (λ v gate. refl) s j.gates (search rules) (search rules)

pub returns-in-Below-clause-after : goal.returns-in-Below-clause-after
returns-in-Below-clause-after g c =
    let j = c.args.self.now in
    let s = g.B.Register.scheme j.below in
    let x = c.args.flow in
    site_written s j.gates c.args.reach (search rules) (flowing x) (gate_flowing x) (λ r. refl) (λ v gate. refl) (g.B.Register.scheme c.set_flow.new.self) j.gates (search rules) (search rules)

pub returns-in-At-clause-after : goal.returns-in-At-clause-after
returns-in-At-clause-after g c =
    let j = c.args.self.now in
    let s = g.B.Register.scheme j.below in
    let x = c.args.flow in
    site_written s j.gates c.args.reach (search rules) (flowing x) (gate_flowing x) (λ r. refl) (λ v gate. refl) s (set j.gates c.from.result (gate_flowing x (get_or j.gates c.from.result shut))) (search rules) (search rules)
