-- What an ordering says of the gap and of sides.
use Rattle.std.specs.Prelude.{◌≡◌, ℕ, ◌+◌, ◌<◌, ◌≤◌, true, false, ◌≢◌, List, ◌∷◌, length, take, pos, slice_index}
use Rattle.scheme.specs.Scheme.{Scheme}
use Rattle.scheme.specs.Flow.{Points, Side, Lawful, Greatest, value, capacity, among}
use Rattle.scheme.specs.Questions.{WellFormed}
use Rattle.flows.specs.Ordering.{key, with_point, grown_from, start_key, Made}

-- Every lawful scheme has an ordering.
pub record HasOrdering (s : Scheme) : Type 0 where
  pub order : List ℕ
  pub keys : List ℕ
  pub gain : ℕ
  pub made : Made s order keys gain

abbrev pub EverySchemeHasAnOrdering : Type 0
EverySchemeHasAnOrdering = (s : Scheme) → WellFormed s → Lawful s → HasOrdering s

-- Taking a point raises every key by what is left from that point, reach by reach.
abbrev pub KeysGrowPointByPoint : Type 0
KeysGrowPointByPoint =
    (s : Scheme) (x : Points) (u v : ℕ) → x u ≡ false
    → key s (with_point x u) v ≡ grown_from u v s.reaches (key s x v)

-- The inlet's start key is the most that a key can be: no key passes it, from whichever points, nor on the way
-- while a point is taken, nor does the gain. So none overflows.
pub record KeysWithin (most : ℕ) (s : Scheme) : Type 0 where
  pub start : start_key ≡ most
  pub from_any : (x : Points) (v : ℕ) → key s x v ≤ most
  pub on_the_way :
      (x : Points) (u v count : ℕ) → x u ≡ false → grown_from u v (take count s.reaches) (key s x v) ≤ most
  pub gains : (order keys : List ℕ) (gain : ℕ) → Made s order keys gain → gain ≤ most

abbrev pub KeysStayWithin : ℕ → Type 0
KeysStayWithin most = (s : Scheme) → WellFormed s → Lawful s → KeysWithin most s

-- An order starts with the inlet and holds points of the scheme, each once; so it is no longer than there are points.
pub record OrderFits (s : Scheme) (order keys : List ℕ) : Type 0 where
  pub later : List ℕ
  pub starts : order ≡ s.inlet ∷ later
  pub keyed : length order ≡ length keys + 1
  pub points : (v : ℕ) → among order v ≡ true → v < s.points
  pub once : (i j : ℕ) → i < j → j < length order → slice_index order i ≢ slice_index order j
  pub short : length order ≤ s.points

abbrev pub OrdersFitTheScheme : Type 0
OrdersFitTheScheme =
    (s : Scheme) (order keys : List ℕ) (gain : ℕ) → WellFormed s → Made s order keys gain → OrderFits s order keys

-- The points of an order are a side. Its capacity is the value, which is the greatest; and no side of that
-- capacity lacks one of its points, so that it is the least such side.
pub record LeastSide (s : Scheme) (order : List ℕ) : Type 0 where
  pub side : Side s (among order)
  pub meets : value s ≡ pos (capacity s (among order))
  pub greatest : Greatest s (value s)
  pub least :
      (y : Points) → Side s y → capacity s y ≡ capacity s (among order) → (v : ℕ) → among order v ≡ true → y v ≡ true

-- An ordering that gains 0 ends with such a side.
abbrev pub NoGainFindsTheLeastSide : Type 0
NoGainFindsTheLeastSide =
    (s : Scheme) (order keys : List ℕ) → WellFormed s → Lawful s → Made s order keys 0 → LeastSide s order
