-- What making an ordering leaves in the tables.
use Rattle.std.specs.Prelude.{◌≡◌, ℕ, List, [], ◌∷◌, length}
use Rattle.scheme.specs.Scheme.{Scheme}
use Rattle.scheme.specs.Flow.{among}
use Rattle.pick.specs.Keys.{Keys}
use Rattle.flows.specs.Ordering.{Made}
use Rattle.solver.specs.Raises.{HoldsKeys}
use Rattle.solver.specs.Work.{written, places}

-- An ordering was made over the tables o and p, and left o' and p'.
pub record OrderingMade (s : Scheme) (o p : List ℕ) (gain count : ℕ) (o' p' : List ℕ) : Type 0 where
  -- FREE: which of several points with equal keys comes first is not said. `made` alone fences the order in.
  pub order : List ℕ
  pub keys : List ℕ
  pub made : Made s order keys gain
  pub told : count ≡ length order
  pub order_table : o' ≡ written order o
  pub place_table : p' ≡ written (places s order) p

-- The inlet is taken, stands in the tables, and no key has grown yet.
pub record OrderBegun (s : Scheme) (o p : List ℕ) (ks : Keys) : Type 0 where
  pub order_table : o ≡ written (s.inlet ∷ []) o
  pub place_table : p ≡ written (places s (s.inlet ∷ [])) p
  pub held : HoldsKeys s (among []) (among (s.inlet ∷ [])) ks
