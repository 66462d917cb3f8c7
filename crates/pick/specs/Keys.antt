-- What a pick means (in the field: an addressable priority queue over the points).
use Rattle.std.specs.Prelude.{◌≡◌, ℕ, ◌≤◌, List, length, Some, None, Option, slice_index_or}

-- One entry for each point below the size, in number order: the point's key (its priority) if the point
-- is still outside, and nothing if it is inside.
abbrev pub Keys : Type 0
Keys = List (Option ℕ)

abbrev pub size : Keys → ℕ
size ks = length ks

-- the key of a point that is outside; a point at or past the size never is
abbrev pub key_of : Keys → ℕ → Option ℕ
key_of ks v = slice_index_or ks v None

abbrev pub Outside : Keys → ℕ → ℕ → Type 0
Outside ks v k = key_of ks v ≡ Some k

abbrev pub NoneOutside : Keys → Type 0
NoneOutside ks = (v k : ℕ) → Outside ks v k → ⊥

-- k is at least every outside key
abbrev pub NoneGreater : Keys → ℕ → Type 0
NoneGreater ks k = (v l : ℕ) → Outside ks v l → l ≤ k
