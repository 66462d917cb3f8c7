-- A list of reaches of which each was changed alike: what is read from it, and what a write does to it.
use Rattle.std.proofs.Common.{◌≡◌, ℕ, List, map, set, Some, None, Option, sym, refl, ap, ◌∙◌}
use Rattle.std.specs.List.{slice_get}
use Rattle.std.specs.Option.{option_map}
use Rattle.std.proofs.lemmas.List.{map-set}
use Rattle.std.proofs.lemmas.Option.{slice_get-map}
use Rattle.scheme.specs.declared.rows.Reach.{Reach}
use Rattle.scheme.specs.Scheme.{Scheme, over, changed}
use Rattle.layers.specs.Turns.{turned, turned_reach}

pub mapped_mapped : {X Y Z : Type 0} (g : Y → Z) (f : X → Y) (o : Option X) → option_map g (option_map f o) ≡ option_map (λ x. g (f x)) o
mapped_mapped g f None = refl
mapped_mapped g f (Some x) = refl

pub field_of_map : {X Y Z : Type 0} (g : Y → Z) (f : X → Y) (xs : List X) (k : ℕ) → option_map g (slice_get (map f xs) k) ≡ option_map (λ x. g (f x)) (slice_get xs k)
field_of_map g f xs k = ap (option_map g) (slice_get-map f xs k) ∙ mapped_mapped g f (slice_get xs k)

-- a change that may as well be made before as after
pub changed_map : (f t : Reach → Reach) → ((r : Reach) → f (t r) ≡ t (f r)) → (rs : List Reach) (k : ℕ) → changed f (map t rs) k ≡ map t (changed f rs k)
changed_map f t alike rs k =
    rw (slice_get-map t rs k, changed)
    (elim (slice_get rs k) as
    (λ o.
    elim (option_map t o) [ None ↦ map t rs | Some r ↦ set (map t rs) k (f r) ]
    ≡ map t (elim o [ None ↦ rs | Some r ↦ set rs k (f r) ])) [
      | None ↦ refl
      | Some r ↦ ap (set (map t rs) k) (alike r) ∙ sym (map-set t rs k (f r))
    ])

pub turned_changed : (f : Reach → Reach) → ((r : Reach) → f (turned_reach r) ≡ turned_reach (f r)) → (s : Scheme) (k : ℕ) → turned (over s (changed f s.reaches k)) ≡ over (turned s) (changed f (turned s).reaches k)
turned_changed f alike s k = ap (over (turned s)) (sym (changed_map f turned_reach alike s.reaches k))
