-- Rounds that gain, as they are told: each with the scheme that it began on, its order, its gain, and what it left.
use Rattle.std.specs.Prelude.{ℕ, ◌<◌, List, [], ◌∷◌}
use Rattle.scheme.specs.Scheme.{Scheme}
use Rattle.flows.specs.Ordering.{Made}
use Rattle.flows.specs.Round.{Round}

pub record Gainful : Type 0 where
  pub before : Scheme
  pub order : List ℕ
  pub gain : ℕ
  pub after : Scheme

abbrev pub gainful : Scheme → List ℕ → ℕ → Scheme → Gainful
gainful s order gain t = record { before = s; order = order; gain = gain; after = t }

-- a chain of rounds that gain, each on the flows that the one before it left
pub data RoundsTold : Scheme → List Gainful → Scheme → Type 0 where
  none : {s : Scheme} → RoundsTold s [] s
  more :
      {s t u : Scheme} {order keys : List ℕ} {gain : ℕ} {later : List Gainful} → Round s order keys gain t → 0 < gain
      → RoundsTold t later u → RoundsTold s (gainful s order gain t ∷ later) u

-- a settled run: such a chain, and the order of the round that gains 0 and ends it
pub record SettledRun (s : Scheme) (rounds : List Gainful) (order : List ℕ) (t : Scheme) : Type 0 where
  pub chain : RoundsTold s rounds t
  pub keys : List ℕ
  pub ended : Made t order keys 0
