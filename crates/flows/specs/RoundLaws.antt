-- What rounds do to the gap, and where they end.
use Rattle.std.specs.Prelude.{◌≡◌, ℕ, ◌+◌, ◌*◌, ◌<◌, ◌≤◌, List, pos, ◌+ℤ◌}
use Rattle.scheme.specs.Scheme.{Scheme}
use Rattle.scheme.specs.Flow.{Points, Side, Lawful, Greatest, Gap, value}
use Rattle.scheme.specs.Questions.{WellFormed}
use Rattle.scheme.specs.Crossings.{left_out}
use Rattle.flows.specs.Ordering.{Made}
use Rattle.flows.specs.PushLaws.{SameLimits}
use Rattle.flows.specs.Round.{Round, Rounds, Settled}

-- Every lawful scheme has exactly one gap.
pub record OneGap (s : Scheme) : Type 0 where
  pub gap : ℕ
  pub is : Gap s gap
  pub only : (other : ℕ) → Gap s other → other ≡ gap

abbrev pub EverySchemeHasOneGap : Type 0
EverySchemeHasOneGap = (s : Scheme) → WellFormed s → Lawful s → OneGap s

-- A round, whether it gains or not, leaves a lawful flow under the same limits, with a value higher by the gain.
pub record RoundLeaves (s t : Scheme) (gain : ℕ) : Type 0 where
  pub limits : SameLimits s t
  pub formed : WellFormed t
  pub lawful : Lawful t
  pub raised : value t ≡ value s +ℤ pos gain

abbrev pub RoundRaisesTheValueByTheGain : Type 0
RoundRaisesTheValueByTheGain =
    (s t : Scheme) (order keys : List ℕ) (gain : ℕ) → WellFormed s → Lawful s → Round s order keys gain t
    → RoundLeaves s t gain

-- A round gains 0 exactly if the gap is 0.
pub record GainsWithTheGap (s : Scheme) (gain : ℕ) : Type 0 where
  pub closed : gain ≡ 0 → Gap s 0
  pub ended : Gap s 0 → gain ≡ 0

abbrev pub RoundGainsWhileThereIsAGap : Type 0
RoundGainsWhileThereIsAGap =
    (s : Scheme) (order keys : List ℕ) (gain : ℕ) → WellFormed s → Lawful s → Made s order keys gain
    → GainsWithTheGap s gain

-- A round that gains closes the gap by its gain, and by at least a part that the number n of points tells:
-- `after n` times the gap after it is at most `before n` times the gap before it.
pub record GapFalls (gain old new old_part new_part : ℕ) : Type 0 where
  pub by_gain : old ≡ new + gain
  pub by_part : new_part * new ≤ old_part * old

abbrev pub RoundsCloseTheGap : (ℕ → ℕ) → (ℕ → ℕ) → Type 0
RoundsCloseTheGap after before =
    (s t : Scheme) (order keys : List ℕ) (gain old new : ℕ) → WellFormed s → Lawful s
    → Round s order keys gain t → 0 < gain → Gap s old → Gap t new
    → GapFalls gain old new (before s.points) (after s.points)

-- A chain of rounds leaves a lawful flow under the same limits, and has no more rounds than the gap has
-- litres, nor than are left out of any side: so every chain ends.
pub record Chain (s t : Scheme) (count : ℕ) : Type 0 where
  pub limits : SameLimits s t
  pub formed : WellFormed t
  pub lawful : Lawful t
  pub gained : ℕ
  pub raised : value t ≡ value s +ℤ pos gained
  pub each_gains : count ≤ gained
  pub within_gap : (gap : ℕ) → Gap s gap → count ≤ gap
  pub within_side : (x : Points) → Side s x → count ≤ left_out s x

abbrev pub ChainsAreBounded : Type 0
ChainsAreBounded = (s t : Scheme) (count : ℕ) → WellFormed s → Lawful s → Rounds s count t → Chain s t count

-- Some chain ends with a round that gains 0,
pub record CanSettle (s : Scheme) : Type 0 where
  pub count : ℕ
  pub after : Scheme
  pub settled : Settled s count after

abbrev pub EverySchemeSettles : Type 0
EverySchemeSettles = (s : Scheme) → WellFormed s → Lawful s → CanSettle s

-- and wherever one does, the value is the greatest under the limits of the start.
abbrev pub SettledIsGreatest : Type 0
SettledIsGreatest = (s t : Scheme) (count : ℕ) → WellFormed s → Lawful s → Settled s count t → Greatest s (value t)
