-- What a junction does to flows: what is lawful above is what is lawful below and keeps every point's limit.
use Rattle.std.specs.Prelude.{◌≡◌, ℕ, ◌+◌, ◌<◌, ◌≤◌, cond, List, ◌++◌, map, length, take, ℤ, ◌≤ℤ◌, ◌==◌, slice_index_or}
use Rattle.std.specs.List.{range_with_len}
use Rattle.scheme.specs.Scheme.{Scheme, with_flows}
use Rattle.scheme.specs.Flow.{Lawful, value, inflow, outflow, Greatest}
use Rattle.scheme.specs.Questions.{WellFormed}
use Rattle.layers.specs.declared.gates.Gate.{Gate}
use Rattle.layers.specs.Junctions.{junction, shut}

-- What passes a point: all that leaves it, and at the outlet all that enters it. Under a lawful flow these
-- are one number at every other point but the inlet. What enters the inlet does not pass it, nor does
-- what leaves the outlet: the first comes in before the inlet's gate, where the water starts, and the
-- second goes out behind the outlet's, where it ends.
abbrev pub passes : Scheme → ℕ → ℕ
passes s v = cond (v == s.outlet) (inflow s v) (outflow s v)

-- no point passes more than its limit, inlet and outlet included
abbrev pub WithinGates : Scheme → List Gate → Type 0
WithinGates s gates = (v : ℕ) → v < s.points → passes s v ≤ (slice_index_or gates v shut).limit

-- a flow for the register below that is lawful there and keeps every point's limit
pub record LawfulUnder (s : Scheme) (gates : List Gate) (fs : List ℕ) : Type 0 where
  pub lawful : Lawful (with_flows s fs)
  pub within_gates : WithinGates (with_flows s fs) gates

-- What a junction carries: a well-formed register of at most 256 points. No more is asked of inlet and outlet.
pub record Carried (s : Scheme) : Type 0 where
  pub formed : WellFormed s
  pub few : s.points ≤ 256

-- From a lawful flow above, the flows of the reaches below, which come first, are lawful below with the same
-- value, and keep every point's limit.
abbrev pub LawfulBelow : Type 0
LawfulBelow =
    (s : Scheme) (gates : List Gate) → Carried s → (fs : List ℕ) → length fs ≡ length (junction s gates).reaches
    → Lawful (with_flows (junction s gates) fs)
    → LawfulUnder s gates (take (length s.reaches) fs)
    × (value (with_flows s (take (length s.reaches) fs)) ≡ value (with_flows (junction s gates) fs))

-- what passes each point, in point order
abbrev pub passing : Scheme → List ℕ
passing s = map (passes s) (range_with_len 0 s.points)

-- A lawful flow below that keeps every point's limit, with what passes each point as the flow of its gate,
-- is lawful above, with the same value.
abbrev pub ExtendsAbove : Type 0
ExtendsAbove =
    (s : Scheme) (gates : List Gate) → Carried s → (fs : List ℕ) → length fs ≡ length s.reaches
    → LawfulUnder s gates fs
    → Lawful (with_flows (junction s gates) (fs ++ passing (with_flows s fs)))
    × (value (with_flows (junction s gates) (fs ++ passing (with_flows s fs))) ≡ value (with_flows s fs))

-- the same of the flows that register and gates have now
abbrev pub LawfulNow : Type 0
LawfulNow =
    (s : Scheme) (gates : List Gate) → Carried s → Lawful (junction s gates)
    → Lawful s × WithinGates s gates × (value s ≡ value (junction s gates))

-- z is the greatest value of the lawful flows that keep every point's limit
pub record GreatestUnder (s : Scheme) (gates : List Gate) (z : ℤ) : Type 0 where
  pub flows : List ℕ
  pub covers : length flows ≡ length s.reaches
  pub under : LawfulUnder s gates flows
  pub reached : value (with_flows s flows) ≡ z
  pub most : (fs : List ℕ) → length fs ≡ length s.reaches → LawfulUnder s gates fs → value (with_flows s fs) ≤ℤ z

-- the greatest value above is the greatest below under the point limits
abbrev pub GreatestAsUnder : Type 0
GreatestAsUnder =
    (s : Scheme) (gates : List Gate) (z : ℤ) → Carried s
    → (Greatest (junction s gates) z → GreatestUnder s gates z) × (GreatestUnder s gates z → Greatest (junction s gates) z)

-- A junction over a well-formed register is well formed itself where its gates' limits are bounded too, and the
-- gates do not bring the reaches past 8,192.
abbrev pub WellFormedAbove : Type 0
WellFormedAbove =
    (s : Scheme) (gates : List Gate) → Carried s → length s.reaches + s.points ≤ 8192
    → ((v : ℕ) → v < s.points → (slice_index_or gates v shut).limit ≤ 1000000)
    → WellFormed (junction s gates)
