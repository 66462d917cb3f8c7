-- What a register means, and what a write does to it.
use Rattle.std.specs.Prelude.{ℕ, List, [], ◌∷◌, map, Some, None, Option, slice_set}
use Rattle.std.specs.List.{slice_get}
use Rattle.std.specs.Option.{option_map}
use Rattle.scheme.specs.declared.rows.Reach.{Reach}

-- The meaning of a register (in the field: a capacitated directed network with a flow on it).
-- `points` is the number of points (nodes), which are numbered from 0; `inlet` is the source and
-- `outlet` the sink; the reaches (arcs) are numbered by their places in the list.
pub record Scheme : Type 0 where
  pub points : ℕ
  pub inlet : ℕ
  pub outlet : ℕ
  pub reaches : List Reach

-- a field of a reach, absent where the list has no such reach
abbrev pub tail_at : Scheme → ℕ → Option ℕ
tail_at s k = option_map (λ r. r.tail) (slice_get s.reaches k)

abbrev pub head_at : Scheme → ℕ → Option ℕ
head_at s k = option_map (λ r. r.head) (slice_get s.reaches k)

abbrev pub limit_at : Scheme → ℕ → Option ℕ
limit_at s k = option_map (λ r. r.limit) (slice_get s.reaches k)

abbrev pub flow_at : Scheme → ℕ → Option ℕ
flow_at s k = option_map (λ r. r.flow) (slice_get s.reaches k)

-- a reach of zeros, which stands where a list has none
abbrev pub no_reach : Reach
no_reach = record { tail = 0; head = 0; limit = 0; flow = 0 }

-- a reach with another limit (capacity), and with another flow
abbrev pub limited : ℕ → Reach → Reach
limited x r = record { tail = r.tail; head = r.head; limit = x; flow = r.flow }

abbrev pub flowing : ℕ → Reach → Reach
flowing x r = record { tail = r.tail; head = r.head; limit = r.limit; flow = x }

-- the same points under other reaches
abbrev pub over : Scheme → List Reach → Scheme
over s rs = record { points = s.points; inlet = s.inlet; outlet = s.outlet; reaches = rs }

-- the list with reach k changed; as it was where there is none
abbrev pub changed : (Reach → Reach) → List Reach → ℕ → List Reach
changed f rs k = elim (slice_get rs k) [ None ↦ rs | Some r ↦ slice_set rs k (f r) ]

abbrev pub with_limit : Scheme → ℕ → ℕ → Scheme
with_limit s k x = over s (changed (limited x) s.reaches k)

abbrev pub with_flow : Scheme → ℕ → ℕ → Scheme
with_flow s k x = over s (changed (flowing x) s.reaches k)

-- other flows laid over the same points, ends and limits
abbrev pub flows_over : List Reach → List ℕ → List Reach
flows_over [] fs = []
flows_over (r ∷ rs) [] = r ∷ rs
flows_over (r ∷ rs) (f ∷ fs) = flowing f r ∷ flows_over rs fs

abbrev pub with_flows : Scheme → List ℕ → Scheme
with_flows s fs = over s (flows_over s.reaches fs)

-- no flow anywhere
abbrev pub emptied : Scheme → Scheme
emptied s = over s (map (flowing 0) s.reaches)
