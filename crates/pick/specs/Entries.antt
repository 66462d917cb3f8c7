-- The entries of a heap by place, and the place of each point's entry.
use Rattle.std.specs.Prelude.{◌≡◌, ℕ, ◌<◌, List, map, length, Some, None, Option, option_map, slice_index_or}
use Rattle.pick.specs.declared.trees.Entry.{Entry}
use Rattle.pick.specs.Keys.{Keys}

abbrev pub entry_at : List Entry → ℕ → Entry
entry_at es i = slice_index_or es i (record { point = 0; key = 0 })

abbrev pub point_at : List Entry → ℕ → ℕ
point_at es i = (entry_at es i).point

abbrev pub key_at : List Entry → ℕ → ℕ
key_at es i = (entry_at es i).key

-- where a point's entry is, if it has one
abbrev pub place_of : List (Option ℕ) → ℕ → Option ℕ
place_of ps v = slice_index_or ps v None

-- Points and places are inverse to each other. The type of a tree states it in these two parts, since a record
-- is not taken there.

-- each entry's place is that of its point
abbrev pub There : List Entry → List (Option ℕ) → Type 0
There es ps = (i : ℕ) → i < length es → place_of ps (point_at es i) ≡ Some i

-- the place of a point has an entry, of this point
abbrev pub Back : List Entry → List (Option ℕ) → Type 0
Back es ps = (v i : ℕ) → place_of ps v ≡ Some i → (i < length es) × (point_at es i ≡ v)

-- what they mean: of each point the key of its entry
unfoldable pub held_by : List Entry → List (Option ℕ) → Keys
held_by es ps = map (option_map (key_at es)) ps
