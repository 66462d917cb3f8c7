-- What a pick holds while an ordering is made, and how the keys grow from a point that was taken.
use Rattle.std.specs.Prelude.{◌≡◌, ℕ, ◌≤◌, cond, not, ◌&&◌, List, take, Some, None, ◌==◌, nat_lt}
use Rattle.std.specs.Option.{option_map}
use Rattle.scheme.specs.declared.rows.Reach.{Reach}
use Rattle.pick.specs.Calls.{greatest_key}
use Rattle.scheme.specs.Scheme.{Scheme}
use Rattle.scheme.specs.Flow.{Points, left_on, left_back}
use Rattle.pick.specs.Keys.{Keys, key_of, Outside}
use Rattle.flows.specs.Ordering.{key, grown_from}

-- the other end of a reach at a point, and what is left along the reach from the point to it
abbrev pub other_end : ℕ → Reach → ℕ
other_end u r = cond (r.tail == u) r.head r.tail

abbrev pub left_from_point : ℕ → Reach → ℕ
left_from_point u r = cond (r.tail == u) (left_on r) (left_back r)

-- every outside point's key has grown by what is left along the reaches from the point u
abbrev pub GrownFrom : ℕ → List Reach → Keys → Keys → Type 0
GrownFrom u rs before after = (w : ℕ) → key_of after w ≡ option_map (grown_from u w rs) (key_of before w)

-- on the way there no key passes the greatest
abbrev pub RoomToGrow : ℕ → List Reach → Keys → Type 0
RoomToGrow u rs ks = (w k count : ℕ) → Outside ks w k → grown_from u w (take count rs) k ≤ greatest_key

-- just the points that are not among the taken ones are outside, each with its key from the points of x
abbrev pub HoldsKeys : Scheme → Points → Points → Keys → Type 0
HoldsKeys s x taken ks =
    (v : ℕ) → key_of ks v ≡ cond (nat_lt v s.points && not (taken v)) (Some (key s x v)) None
