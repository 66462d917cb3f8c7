-- One round, and a chain of rounds that gain.
use Rattle.std.specs.Prelude.{◌≡◌, ℕ, suc, ◌<◌, cond, List, ◌==◌}
use Rattle.scheme.specs.Scheme.{Scheme}
use Rattle.flows.specs.Ordering.{Made}
use Rattle.flows.specs.Push.{push}

-- some ordering is made; with a gain the flows become the push's, and without they stay
pub record Round (s : Scheme) (order keys : List ℕ) (gain : ℕ) (t : Scheme) : Type 0 where
  pub made : Made s order keys gain
  pub after : t ≡ cond (gain == 0) s (push s order gain)

-- a number of rounds that gain, each on the flows that the one before it left
pub data Rounds : Scheme → ℕ → Scheme → Type 0 where
  none : {s : Scheme} → Rounds s 0 s
  more :
      {s t u : Scheme} {order keys : List ℕ} {gain count : ℕ} → Round s order keys gain t → 0 < gain → Rounds t count u
      → Rounds s (suc count) u

-- a settled run: such a chain, ended by a round that gains 0
pub record Settled (s : Scheme) (count : ℕ) (t : Scheme) : Type 0 where
  pub rounds : Rounds s count t
  pub order : List ℕ
  pub keys : List ℕ
  pub ended : Made t order keys 0
