-- The steps of a push on the tables that come with a call, and what each takes for granted.
use Rattle.std.specs.Prelude.{◌≡◌, ℕ, ◌^◌, ◌<◌, ◌≤◌, List, length, get_or, take, nat_lt, slice_index, slice_index_or}
use Rattle.std.specs.List.{AllByRecursion}
use Rattle.scheme.specs.declared.rows.Reach.{Reach}
use Rattle.scheme.specs.Bounds.{no_point}
use Rattle.scheme.specs.Flow.{Points, Lawful}
use Rattle.scheme.specs.Questions.{WellFormed, Joined}
use Rattle.scheme.specs.Scheme.{Scheme, no_reach}
use Rattle.flows.specs.Ordering.{Made}
use Rattle.flows.specs.Push.{Needs, pushed, pushed_all}
use Rattle.solver.specs.Work.{places}

-- what each point needs, by the table of needs
abbrev pub needs_of : List ℕ → Needs
needs_of need w = slice_index need w

-- the points whose place in the order is before that of v, by the table of places
abbrev pub earlier : List ℕ → ℕ → Points
earlier place v u = nat_lt (slice_index_or place u no_point) (slice_index_or place v no_point)

-- the point v asks along the reach k
abbrev pub pushed_at : Scheme → List ℕ → List ℕ → ℕ → ℕ → Reach × Needs
pushed_at s place need v k = pushed (earlier place v) v (slice_index_or s.reaches k no_reach) (needs_of need)

-- what that takes for granted: a reach of the list that joins two points and is within its limit, a point of the
-- scheme, tables with a place for every point, and needs that fit their numbers afterwards
pub record ReachAsks (s : Scheme) (place need : List ℕ) (v k : ℕ) : Type 0 where
  pub listed : k < length s.reaches
  pub joined : Joined s (slice_index_or s.reaches k no_reach)
  pub within : (get_or s.reaches k no_reach).flow ≤ (get_or s.reaches k no_reach).limit
  pub inside : v < s.points
  pub placed : s.points ≤ length place
  pub asked : s.points ≤ length need
  pub fits : (w : ℕ) → w < s.points → (pushed_at s place need v k).1 w < 2 ^ 64

-- the point v asks along every reach
abbrev pub pushed_point : Scheme → List ℕ → List ℕ → ℕ → List Reach × Needs
pushed_point s place need v = pushed_all (earlier place v) v s.reaches (needs_of need)

-- what that takes for granted, on the way too
pub record PointAsks (s : Scheme) (place need : List ℕ) (v : ℕ) : Type 0 where
  pub formed : WellFormed s
  pub within : AllByRecursion (λ r. r.flow ≤ r.limit) s.reaches
  pub inside : v < s.points
  pub placed : s.points ≤ length place
  pub asked : s.points ≤ length need
  pub fits :
      (count w : ℕ) → w < s.points → (pushed_all (earlier place v) v (take count s.reaches) (needs_of need)).1 w < 2 ^ 64

-- what is taken for granted when a gain is pushed, if there is one: the tables hold an order that was made, and are long
-- enough
pub record GainAsks (s : Scheme) (order place need : List ℕ) (gain count : ℕ) : Type 0 where
  pub formed : WellFormed s
  pub lawful : Lawful s
  pub keys : List ℕ
  pub made : Made s (take count order) keys gain
  pub listed : count ≤ length order
  pub placed : take s.points place ≡ places s (take count order)
  pub needed : s.points ≤ length need

-- what is taken for granted when all points of an order ask, the latest first: the order is made and has a gain, and
-- the tables are as long as there are points
pub record OrderAsks (s : Scheme) (order place need : List ℕ) (gain : ℕ) : Type 0 where
  pub formed : WellFormed s
  pub lawful : Lawful s
  pub keys : List ℕ
  pub made : Made s order keys gain
  pub some : 0 < gain
  pub placed : place ≡ places s order
  pub asked : length need ≡ s.points
