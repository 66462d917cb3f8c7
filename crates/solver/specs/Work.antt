-- The tables that come with a call, and what is written into them.
use Rattle.std.specs.Prelude.{ℕ, ◌+◌, cond, List, [], ◌∷◌, ◌++◌, map, length, drop, ◌==◌}
use Rattle.std.specs.List.{range_with_len}
use Rattle.scheme.specs.Bounds.{no_point}
use Rattle.scheme.specs.Scheme.{Scheme}
use Rattle.scheme.specs.Flow.{among}

-- The work tables of a round, as lists: the order (which point came when), the place of each point in it, and
-- what each point still needs while water is pushed.
pub record Work : Type 0 where
  pub order : List ℕ
  pub place : List ℕ
  pub need : List ℕ

abbrev pub work_of : List ℕ → List ℕ → List ℕ → Work
work_of order place need = record { order = order; place = place; need = need }

-- a table with its first entries written anew; the others are untouched
abbrev pub written : List ℕ → List ℕ → List ℕ
written new old = new ++ drop (length new) old

-- the position of a point in an order whose first has position k; 65,535 if the order lacks the point
abbrev pub position : ℕ → List ℕ → ℕ → ℕ
position k [] v = no_point
position k (w ∷ ws) v = cond (w == v) k (position (k + 1) ws v)

abbrev pub places : Scheme → List ℕ → List ℕ
places s order = map (position 0 order) (range_with_len 0 s.points)

-- the gain at the inlet and 0 at every other point
abbrev pub supply : Scheme → ℕ → List ℕ
supply s gain = map (λ v. cond (v == s.inlet) gain 0) (range_with_len 0 s.points)

-- 1 for the points of an order and 0 for every other point
abbrev pub marks_of : Scheme → List ℕ → List ℕ
marks_of s order = map (λ v. cond (among order v) 1 0) (range_with_len 0 s.points)

-- the work tables after an ordering with a gain
abbrev pub worked : Scheme → List ℕ → ℕ → Work → Work
worked s order gain w =
    record {
      order = written order w.order;
      place = written (places s order) w.place;
      need = written (supply s gain) w.need;
    }
