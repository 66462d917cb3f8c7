use Rattle.scheme_file.proofs.Steps.{Going}
use Rattle.scheme_file.proofs.reading.row_block.Given as goal

abbrev pub invariant-loop-part : goal.invariant-loop-part
invariant-loop-part l = Going l.bytes l.part-iterator l.rows
