use Rattle.std.proofs.Common.{◌≡◌, ◌-◌, ◌≤◌}
use Rattle.pick.specs.Trees.{key_in, held_in, count, Sinking}
use Rattle.pick.proofs.trees.Tree.sink.Given as goal

abbrev pub invariant-loop-down : goal.invariant-loop-down
invariant-loop-down l =
    (l.place ≤ count l.self)
    × Sinking (key_in l.self) (count l.self) l.place
    × (held_in l.self ≡ held_in l.initial.self)

abbrev pub decreases-loop-down : goal.decreases-loop-down
decreases-loop-down l = count l.self - l.place
