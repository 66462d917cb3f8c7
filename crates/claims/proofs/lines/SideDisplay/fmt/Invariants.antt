use Rattle.std.proofs.Common.{take}
use Rattle.std.specs.Fmt.{HasWritten, IsPlainFormatter}
use Rattle.scheme.specs.Words.{side_from}
use Rattle.claims.proofs.lines.SideDisplay.fmt.Given as goal

abbrev pub invariant-loop-point : goal.invariant-loop-point
invariant-loop-point g l =
    IsPlainFormatter l.initial.f → HasWritten g.W.Write.write_str_gives l.initial.f (side_from 0 (take l.point-counter l.self.0.now)) l.f
