-- The ordering of one round (in the field: a maximum adjacency ordering).
use Rattle.std.specs.Prelude.{◌≡◌, ℕ, ◌+◌, ◌^◌, ◌<◌, ◌≤◌, min, false, cond, ◌&&◌, ◌||◌, List, [], ◌∷◌, ◌++◌, fold, sum_by, ◌==◌, nat_eq}
use Rattle.scheme.specs.declared.rows.Reach.{Reach}
use Rattle.scheme.specs.Scheme.{Scheme}
use Rattle.scheme.specs.Flow.{Points, among, left_on, left_back}

-- what is left along a reach from a point of x to the point v
abbrev pub left_to : Points → ℕ → Reach → ℕ
left_to x v r =
    cond (r.head == v && x r.tail) (left_on r) 0 + cond (r.tail == v && x r.head) (left_back r) 0

-- what is left from the points of x to the point v along all reaches
abbrev pub left_into : Scheme → Points → ℕ → ℕ
left_into s x v = sum_by (left_to x v) s.reaches

-- How the key of an outside point grows by what is left along one reach from a taken point.
abbrev pub grown : ℕ → ℕ → ℕ
grown key left = key + left

-- the key of the point v from the taken points x: it starts at 0 and grows along every reach
abbrev pub key : Scheme → Points → ℕ → ℕ
key s x v = fold (λ k r. grown k (left_to x v r)) 0 s.reaches

-- a set with one point more
abbrev pub with_point : Points → ℕ → Points
with_point x u v = x v || u == v

-- the key of v, grown by what is left along some reaches from the one point u
abbrev pub grown_from : ℕ → ℕ → List Reach → ℕ → ℕ
grown_from u v rs k = fold (λ k r. grown k (left_to (nat_eq u) v r)) k rs

-- The key that the inlet is given at the start, so that it is taken first. No other key passes it.
abbrev pub start_key : ℕ
start_key = 2 ^ 40

abbrev pub Outside : Scheme → Points → ℕ → Type 0
Outside s x v = (v < s.points) × (x v ≡ false)

-- A point that may come next, with its key: an outside point whose key is at least every outside key.
-- Which of several such points is taken is free.
pub record Next (s : Scheme) (x : Points) (v k : ℕ) : Type 0 where
  pub outside : Outside s x v
  pub is : k ≡ key s x v
  pub greatest : (w : ℕ) → Outside s x w → key s x w ≤ k

-- the points taken so far, in order, and the keys of those after the inlet; the outlet is not among them
pub data Taken (s : Scheme) : List ℕ → List ℕ → Type 0 where
  first : Taken s (s.inlet ∷ []) []
  next :
      {ws ks : List ℕ} {v k : ℕ} → Taken s ws ks → Next s (among ws) v k → 0 < k → (v == s.outlet) ≡ false
      → Taken s (ws ++ v ∷ []) (ks ++ k ∷ [])

-- the least of some keys and one more
abbrev pub least : List ℕ → ℕ → ℕ
least [] k = k
least (j ∷ js) k = min j (least js k)

-- An ordering that is made: the order, the keys of the points after the inlet, and the gain. It ends with the
-- outlet, and the least key is the gain; or where no outside point has a key above 0, and nothing is gained.
pub data Made (s : Scheme) : List ℕ → List ℕ → ℕ → Type 0 where
  arrives :
      {ws ks : List ℕ} {k : ℕ} → Taken s ws ks → Next s (among ws) s.outlet k → 0 < k
      → Made s (ws ++ s.outlet ∷ []) (ks ++ k ∷ []) (least ks k)
  stops : {ws ks : List ℕ} {v : ℕ} → Taken s ws ks → Next s (among ws) v 0 → Made s ws ks 0
