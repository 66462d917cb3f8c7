use Rattle.std.proofs.Common.{◌≡◌, ℕ, ◌≤◌, length, take, vec_items}
use Rattle.std.specs.List.{AllByRecursion}
use Rattle.scheme.specs.Marks.{marked}
use Rattle.scheme.specs.Flow.{among}
use Rattle.claims.specs.Sides.{extent}
use Rattle.claims.proofs.marks.marks_of.Given as goal

abbrev pub invariant-loop-point : goal.invariant-loop-point
invariant-loop-point l =
    record {
      count : length (vec_items l.marks) ≡ extent l.points l.side;
      bits : AllByRecursion (λ m. m ≤ 1) (vec_items l.marks);
      members : (v : ℕ) → marked (vec_items l.marks) v ≡ among (take l.point-index l.side) v;
    }
