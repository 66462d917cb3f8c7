use Rattle.std.proofs.Common.{◌≡◌, map}
use Rattle.std.specs.List.{range_with_len}
use Rattle.solver.specs.Work.{written}
use Rattle.solver.proofs.Cuts.{mark_at}
use Rattle.solver.proofs.cutting.mark_placed.Given as goal

abbrev pub invariant-loop-point : goal.invariant-loop-point
invariant-loop-point l = l.marks ≡ written (map (mark_at l.place) (range_with_len 0 l.point)) l.initial.marks
