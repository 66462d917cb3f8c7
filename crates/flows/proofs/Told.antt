-- Rounds that are told are as many rounds.
use Rattle.std.proofs.Common.{List, length}
use Rattle.scheme.specs.Scheme.{Scheme}
use Rattle.flows.specs.Round.{Rounds}
use Rattle.flows.specs.RoundsTold.{Gainful, RoundsTold}
use Rattle.flows.specs.Round.Rounds.{none, more}
use Rattle.flows.specs.RoundsTold.RoundsTold.{none as told_none, more as told_more}

pub counted : {s t : Scheme} {rounds : List Gainful} → RoundsTold s rounds t → Rounds s (length rounds) t
counted told_none = none
counted (told_more round some rest) = more round some (counted rest)
