-- What a heap's tree means, and the rule that it keeps.
use Rattle.std.specs.Prelude.{◌≡◌, ℕ, ◌<◌, ◌≤◌, Some, None, Option, ◌≢◌, option_map}
use Rattle.arrayvec.specs.ArrayVec.{array_vec_len}
use Rattle.pick.specs.declared.trees.Entry.{Entry}
use Rattle.pick.specs.declared.trees.Tree.{Tree}
use Rattle.pick.specs.Keys.{Keys}
use Rattle.pick.specs.Places.{above}
use Rattle.pick.specs.Entries.{point_at, key_at, place_of, held_by}

-- how many entries there are, at the places below
abbrev pub count : Tree → ℕ
count t = array_vec_len t.entries

abbrev pub point_in : Tree → ℕ → ℕ
point_in t i = point_at t.entries.items i

abbrev pub key_in : Tree → ℕ → ℕ
key_in t i = key_at t.entries.items i

-- where a point's entry is, if it has one
abbrev pub place_in : Tree → ℕ → Option ℕ
place_in t v = place_of t.places v

-- what a tree means: of each point the key of its entry
abbrev pub held_in : Tree → Keys
held_in t = held_by t.entries.items t.places

-- the point and the key of an entry that is taken
abbrev pub taken_of : Option Entry → Option (ℕ × ℕ)
taken_of taken = option_map (λ e. (e.point, e.key)) taken

-- no key is greater than the one right above it
abbrev pub Ordered : (ℕ → ℕ) → ℕ → Type 0
Ordered key n = (i : ℕ) → 0 < i → i < n → key i ≤ key (above i)

abbrev pub InOrder : Tree → Type 0
InOrder t = Ordered (key_in t) (count t)

-- In order but for the entry at one place, which may be too low: its key may be greater than the one above it.
-- What is below that place has keys at most the one above it.
pub record Climbing (key : ℕ → ℕ) (n at : ℕ) : Type 0 where
  pub others : (i : ℕ) → 0 < i → i < n → (i ≢ at) → key i ≤ key (above i)
  pub around : (i : ℕ) → 0 < i → i < n → above i ≡ at → 0 < at → key i ≤ key (above at)

-- the same but for the entry at one place, which may be too high
pub record Sinking (key : ℕ → ℕ) (n at : ℕ) : Type 0 where
  pub others : (i : ℕ) → 0 < i → i < n → (above i ≢ at) → key i ≤ key (above i)
  pub around : (i : ℕ) → 0 < i → i < n → above i ≡ at → 0 < at → key i ≤ key (above at)

-- what stands at two places has changed places
pub record Exchanged {A : Type 0} (before after : ℕ → A) (a b : ℕ) : Type 0 where
  pub first : after a ≡ before b
  pub second : after b ≡ before a
  pub others : (i : ℕ) → (i ≢ a) → (i ≢ b) → after i ≡ before i

-- the place p right above has a smaller key
pub record Smaller (key : ℕ → ℕ) (at p : ℕ) : Type 0 where
  pub lower : 0 < at
  pub up : p ≡ above at
  pub less : key p < key at

-- the place above, if its key is smaller
abbrev pub SmallerAbove : (ℕ → ℕ) → ℕ → Option ℕ → Type 0
SmallerAbove key at None = 0 < at → key at ≤ key (above at)
SmallerAbove key at (Some p) = Smaller key at p

-- of the places right below, c has the greatest key
pub record Greatest (key : ℕ → ℕ) (n at c : ℕ) : Type 0 where
  pub lower : 0 < c
  pub within : c < n
  pub up : above c ≡ at
  pub most : (i : ℕ) → 0 < i → i < n → above i ≡ at → key i ≤ key c

-- the place below with the greatest key, if any is in use
abbrev pub GreatestChild : (ℕ → ℕ) → ℕ → ℕ → Option ℕ → Type 0
GreatestChild key n at None = (i : ℕ) → 0 < i → i < n → above i ≢ at
GreatestChild key n at (Some c) = Greatest key n at c

pub record Greater (key : ℕ → ℕ) (n at c : ℕ) : Type 0 where
  pub greatest : Greatest key n at c
  pub more : key at < key c

-- the place below with the greatest key, if that is greater than the one at the place
abbrev pub GreaterChild : (ℕ → ℕ) → ℕ → ℕ → Option ℕ → Type 0
GreaterChild key n at None = (i : ℕ) → 0 < i → i < n → above i ≡ at → key i ≤ key at
GreaterChild key n at (Some c) = Greater key n at c
