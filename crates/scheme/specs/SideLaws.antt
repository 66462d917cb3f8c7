-- What sides say of flows.
use Rattle.std.specs.Prelude.{◌≡◌, ℕ, ◌≤◌, List, length, pos, ◌+ℤ◌, ◌≤ℤ◌, None}
use Rattle.std.proofs.Math.IntN.{sub_ℕ}
use Rattle.scheme.specs.Scheme.{Scheme, with_flows}
use Rattle.scheme.specs.Flow.{Points, Side, Lawful, Greatest, value, capacity}
use Rattle.scheme.specs.Marks.{marked, check_questions}
use Rattle.scheme.specs.Questions.{WellFormed, first_no}
use Rattle.scheme.specs.Crossings.{flow_out, flow_in, left_out}

-- The value is what leaves any side less what enters it.
abbrev pub ValueCrossesEachSide : Type 0
ValueCrossesEachSide =
    (s : Scheme) (x : Points) → WellFormed s → Lawful s → Side s x → value s ≡ sub_ℕ (flow_out s x) (flow_in s x)

-- So no value exceeds the capacity of any side,
abbrev pub NoValueExceedsASide : Type 0
NoValueExceedsASide = (s : Scheme) (x : Points) → WellFormed s → Lawful s → Side s x → value s ≤ℤ pos (capacity s x)

-- and where they are equal, no flow under the same limits has a greater value, and no side a smaller capacity
-- (in the field: the easy half of max-flow min-cut).
pub record Meet (s : Scheme) (x : Points) : Type 0 where
  pub greatest : Greatest s (value s)
  pub least : (y : Points) → Side s y → capacity s x ≤ capacity s y

abbrev pub FlowAndSideThatMeetAreBest : Type 0
FlowAndSideThatMeetAreBest =
    (s : Scheme) (x : Points) → WellFormed s → Lawful s → Side s x → value s ≡ pos (capacity s x) → Meet s x

-- That is what it means that the review of a published side accepts.
abbrev pub AcceptedReviewMeansGreatest : Type 0
AcceptedReviewMeansGreatest =
    (s : Scheme) (marks : List ℕ) → first_no (check_questions s marks) ≡ None → Meet s (marked marks)

-- Another lawful flow exceeds the present one by at most what is left out of any side.
abbrev pub NoFlowGainsMoreThanIsLeft : Type 0
NoFlowGainsMoreThanIsLeft =
    (s : Scheme) (x : Points) (fs : List ℕ) → WellFormed s → Lawful s → Side s x → length fs ≡ length s.reaches
    → Lawful (with_flows s fs) → value (with_flows s fs) ≤ℤ (value s +ℤ pos (left_out s x))
