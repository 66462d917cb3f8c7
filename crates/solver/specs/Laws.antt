-- What rounds, a settled book and a cut promise in the subject's words.
use Rattle.std.specs.Prelude.{◌≡◌, ℕ, ◌-◌, ◌*◌, ◌<◌, ◌≤◌, true, ℤ, pos, ◌+ℤ◌}
use Rattle.scheme.specs.Scheme.{Scheme}
use Rattle.scheme.specs.Flow.{Points, Lawful, Side, Greatest, Gap, value, capacity}
use Rattle.flows.specs.PushLaws.{SameLimits}
use Rattle.flows.specs.RoundsTold.{Gainful}
use Rattle.flows.specs.RoundLaws.{OneGap, GainsWithTheGap}

-- A lawful flow under these limits. It has exactly one gap, so that what is said of gaps is said of something.
pub record LawfulWith (limits t : Scheme) : Type 0 where
  pub under : SameLimits limits t
  pub lawful : Lawful t
  pub one_gap : OneGap t

-- A round that gained closed its part of the gap: on n points, n - 1 times the gap after it is at most n - 2 times the
-- gap before it.
abbrev pub Closes : Gainful → Type 0
Closes g =
    (old new : ℕ) → Gap g.before old → Gap g.after new
    → (g.before.points - 1) * new ≤ (g.before.points - 2) * old

-- What a round leaves: a lawful flow under the same limits, with a value higher by the gain. It gains exactly while
-- there is a gap, and with a gain it closed its part of it.
pub record RoundKeeps (s t : Scheme) (gain : ℕ) : Type 0 where
  pub lawful : LawfulWith s t
  pub raised : value t ≡ value s +ℤ pos gain
  pub gains : GainsWithTheGap s gain
  pub closes :
      0 < gain → (old new : ℕ) → Gap s old → Gap t new → (s.points - 1) * new ≤ (s.points - 2) * old

-- The value told is that of the flow, and no lawful flow under the same limits has more.
pub record SettledAt (t : Scheme) (z : ℤ) : Type 0 where
  pub told : z ≡ value t
  pub greatest : Greatest t z

-- What settle leaves: a lawful flow under the same limits, of that value, which is the greatest.
pub record SettleKeeps (s t : Scheme) (z : ℤ) : Type 0 where
  pub lawful : LawfulWith s t
  pub settled : SettledAt t z

-- The flow is lawful; the capacity told is the side's, the value of the flow and the greatest value, and every other side
-- of that capacity holds the points of this one (in the field: the least minimum cut).
pub record LeastCut (s : Scheme) (x : Points) (c : ℕ) : Type 0 where
  pub lawful : Lawful s
  pub side : Side s x
  pub told : c ≡ capacity s x
  pub meets : value s ≡ pos c
  pub greatest : Greatest s (pos c)
  pub least : (y : Points) → Side s y → capacity s y ≡ c → (v : ℕ) → v < s.points → x v ≡ true → y v ≡ true

-- there is still a gap
pub record StillAGap (s : Scheme) : Type 0 where
  pub gap : ℕ
  pub is : Gap s gap
  pub above : 0 < gap
