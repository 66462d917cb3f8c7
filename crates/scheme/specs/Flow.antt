-- Flows, sides and the gap.
use Rattle.std.specs.Prelude.{◌≡◌, ℕ, ◌-◌, ◌<◌, ◌≤◌, Bool, true, false, cond, not, ◌&&◌, ◌||◌, ◌≢◌, List, [], ◌∷◌, length, ℤ, pos, ◌+ℤ◌, ◌≤ℤ◌, sum_by, ◌==◌}
use Rattle.std.proofs.Math.IntN.{sub_ℕ}
use Rattle.std.specs.List.{AllByRecursion}
use Rattle.scheme.specs.declared.rows.Reach.{Reach}
use Rattle.scheme.specs.Scheme.{Scheme, with_flows}

-- what the reaches that leave a point carry together, and those that enter it
abbrev pub outflow : Scheme → ℕ → ℕ
outflow s v = sum_by (λ r. cond (r.tail == v) r.flow 0) s.reaches

abbrev pub inflow : Scheme → ℕ → ℕ
inflow s v = sum_by (λ r. cond (r.head == v) r.flow 0) s.reaches

-- The value of the flow: what leaves the inlet less what enters it. It can be below zero.
abbrev pub value : Scheme → ℤ
value s = sub_ℕ (outflow s s.inlet) (inflow s s.inlet)

-- A lawful (in the field: feasible) flow: no reach carries more than its limit, and every point but
-- inlet and outlet passes on just what it gets.
pub record Lawful (s : Scheme) : Type 0 where
  pub within : AllByRecursion (λ r. r.flow ≤ r.limit) s.reaches
  pub balanced : (v : ℕ) → v < s.points → v ≢ s.inlet → v ≢ s.outlet → inflow s v ≡ outflow s v

-- What is left along a reach (its residual capacity): from tail to head the limit less the flow,
-- and from head to tail the flow, which can be taken back.
abbrev pub left_on : Reach → ℕ
left_on r = r.limit - r.flow

abbrev pub left_back : Reach → ℕ
left_back r = r.flow

-- a set of points, as a test
abbrev pub Points : Type 0
Points = ℕ → Bool

-- the points of a list, as a set
abbrev pub among : List ℕ → Points
among [] v = false
among (w ∷ ws) v = w == v || among ws v

-- A side (a cut between inlet and outlet): a set of points with the inlet and without the outlet.
pub record Side (s : Scheme) (x : Points) : Type 0 where
  pub holds : x s.inlet ≡ true
  pub lacks : x s.outlet ≡ false

-- a reach leaves a set where its tail is in it and its head is not
abbrev pub leaves : Points → Reach → Bool
leaves x r = x r.tail && not (x r.head)

-- the capacity of a side: the limits of the reaches that leave it, together
abbrev pub capacity : Scheme → Points → ℕ
capacity s x = sum_by (λ r. cond (leaves x r) r.limit 0) s.reaches

-- z is the greatest value under the limits of s: some lawful flow has it, and none has more
pub record Greatest (s : Scheme) (z : ℤ) : Type 0 where
  pub flows : List ℕ
  pub covers : length flows ≡ length s.reaches
  pub lawful : Lawful (with_flows s flows)
  pub reached : value (with_flows s flows) ≡ z
  pub most : (fs : List ℕ) → length fs ≡ length s.reaches → Lawful (with_flows s fs) → value (with_flows s fs) ≤ℤ z

-- The gap: by how much the greatest value exceeds the present one.
abbrev pub Gap : Scheme → ℕ → Type 0
Gap s g = Greatest s (value s +ℤ pos g)
