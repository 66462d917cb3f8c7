use Rattle.std.proofs.Common.{length, refl, ap, arith}
use Rattle.scheme.specs.Bounds.{most_points}
use Rattle.pick.proofs.Links.{none_back, none_held}
use Rattle.pick.proofs.trees.Tree.new.Goals as goal

pub invariant_of-result : goal.invariant_of-result
invariant_of-result c =
    let empty = ap length c.new.ensures in
    record { all = refl; there = λ i used. absurd (omega arith); back = none_back c.new.result.items most_points }

pub returns-clause-held : goal.returns-clause-held
returns-clause-held c = none_held c.new.result.items most_points
