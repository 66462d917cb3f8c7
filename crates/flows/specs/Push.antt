-- The push: the new flows, from an order and its gain.
use Rattle.std.specs.Prelude.{ℕ, ◌+◌, ◌-◌, min, cond, ◌&&◌, List, [], ◌∷◌, reverse, ◌==◌}
use Rattle.scheme.specs.declared.rows.Reach.{Reach}
use Rattle.scheme.specs.Scheme.{Scheme, over, flowing}
use Rattle.scheme.specs.Flow.{Points, left_on, left_back, among}

-- what each point still needs
abbrev pub Needs : Type 0
Needs = ℕ → ℕ

-- at the start the outlet needs the gain and every other point 0
abbrev pub first_needs : Scheme → ℕ → Needs
first_needs s gain w = cond (s.outlet == w) gain 0

-- a of what v needs is now needed at u
abbrev pub moved : ℕ → ℕ → ℕ → Needs → Needs
moved a v u needs w = needs w + cond (u == w) a 0 - cond (v == w) a 0

-- A reach joins v with an earlier point, of the set x: towards v from tail to head, or from head to tail.
-- It takes the smaller of what v still needs and what is left along it towards v.
abbrev pub pushed : Points → ℕ → Reach → Needs → Reach × Needs
pushed x v r needs =
    cond (r.head == v && x r.tail)
    (let a = min (needs v) (left_on r) in (flowing (r.flow + a) r, moved a v r.tail needs))
    (cond (r.tail == v && x r.head)
    (let a = min (needs v) (left_back r) in (flowing (r.flow - a) r, moved a v r.head needs))
    (r, needs))

-- all reaches at the point v, in number order
abbrev pub pushed_all : Points → ℕ → List Reach → Needs → List Reach × Needs
pushed_all x v [] needs = ([], needs)
pushed_all x v (r ∷ rs) needs =
    let one = pushed x v r needs in let rest = pushed_all x v rs one.1 in (one.0 ∷ rest.0, rest.1)

-- back through an order, given latest first, to the point after its first
abbrev pub push_back : List ℕ → List Reach → Needs → List Reach × Needs
push_back [] rs needs = (rs, needs)
push_back (v ∷ []) rs needs = (rs, needs)
push_back (v ∷ (w ∷ ws)) rs needs =
    let here = pushed_all (among (w ∷ ws)) v rs needs in push_back (w ∷ ws) here.0 here.1

abbrev pub push_along : Scheme → List ℕ → ℕ → List Reach × Needs
push_along s order gain = push_back (reverse order) s.reaches (first_needs s gain)

-- A stage of a push: the points still to come, latest first, and the reaches and the needs as they stand.
pub data Stage (s : Scheme) (order : List ℕ) (gain : ℕ) : List ℕ → List Reach → Needs → Type 0 where
  begins : Stage s order gain (reverse order) s.reaches (first_needs s gain)
  goes_on :
      {v w : ℕ} {ws : List ℕ} {rs : List Reach} {needs : Needs} → Stage s order gain (v ∷ (w ∷ ws)) rs needs
      → Stage s order gain (w ∷ ws) (pushed_all (among (w ∷ ws)) v rs needs).0 (pushed_all (among (w ∷ ws)) v rs needs).1

-- the scheme with the new flows, and what each point needs in the end
abbrev pub push : Scheme → List ℕ → ℕ → Scheme
push s order gain = over s (push_along s order gain).0

abbrev pub needs_after : Scheme → List ℕ → ℕ → Needs
needs_after s order gain = (push_along s order gain).1
