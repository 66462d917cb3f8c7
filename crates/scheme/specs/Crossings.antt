-- What crosses the border of a set of points.
use Rattle.std.specs.Prelude.{ℕ, ◌+◌, Bool, cond, not, ◌&&◌, sum_by}
use Rattle.scheme.specs.declared.rows.Reach.{Reach}
use Rattle.scheme.specs.Scheme.{Scheme}
use Rattle.scheme.specs.Flow.{Points, leaves, left_on, left_back}

-- a reach enters a set where its head is in it and its tail is not
abbrev pub enters : Points → Reach → Bool
enters x r = x r.head && not (x r.tail)

-- the flow that leaves a set of points, and the flow that enters it
abbrev pub flow_out : Scheme → Points → ℕ
flow_out s x = sum_by (λ r. cond (leaves x r) r.flow 0) s.reaches

abbrev pub flow_in : Scheme → Points → ℕ
flow_in s x = sum_by (λ r. cond (enters x r) r.flow 0) s.reaches

-- what is left out of a set (the residual capacity of the cut): along the reaches that leave it,
-- and back along those that enter it
abbrev pub left_across : Points → Reach → ℕ
left_across x r = cond (leaves x r) (left_on r) 0 + cond (enters x r) (left_back r) 0

abbrev pub left_out : Scheme → Points → ℕ
left_out s x = sum_by (left_across x) s.reaches
