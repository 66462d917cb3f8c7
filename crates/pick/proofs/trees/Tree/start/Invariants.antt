use Rattle.std.proofs.Common.{◌≡◌, ℕ, ◌<◌}
use Rattle.scheme.specs.Bounds.{most_points}
use Rattle.pick.specs.Calls.{started}
use Rattle.pick.specs.Trees.{key_in, held_in, count}
use Rattle.pick.proofs.trees.Tree.start.Given as goal

abbrev pub invariant-loop-point : goal.invariant-loop-point
invariant-loop-point l =
    (count l.self ≡ l.point)
    × (held_in l.self ≡ started most_points l.point)
    × ((i : ℕ) → i < l.point → key_in l.self i ≡ 0)
