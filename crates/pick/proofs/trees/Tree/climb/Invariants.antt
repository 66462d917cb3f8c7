use Rattle.std.proofs.Common.{◌≡◌, ◌<◌}
use Rattle.pick.specs.Trees.{key_in, held_in, count, Climbing}
use Rattle.pick.proofs.trees.Tree.climb.Given as goal

abbrev pub invariant-loop-up : goal.invariant-loop-up
invariant-loop-up l =
    (l.place < count l.self)
    × Climbing (key_in l.self) (count l.self) l.place
    × (held_in l.self ≡ held_in l.initial.self)

abbrev pub decreases-loop-up : goal.decreases-loop-up
decreases-loop-up l = l.place
