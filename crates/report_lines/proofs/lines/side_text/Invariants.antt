use Rattle.std.proofs.Common.{◌≡◌, ◌+◌, ◌*◌, ◌≤◌, ◌++◌, length, drop, codes}
use Rattle.scheme.specs.Words.{side_from}
use Rattle.report_lines.proofs.lines.side_text.Given as goal

-- the points still to come make the text whole; each point took six bytes at most
abbrev pub invariant-loop-point : goal.invariant-loop-point
invariant-loop-point l =
    (l.line.bytes ++ side_from l.point (drop l.point l.marks) ≡ codes "side" ++ side_from 0 l.marks) × (length l.line.bytes ≤ 4 + 6 * l.point)
