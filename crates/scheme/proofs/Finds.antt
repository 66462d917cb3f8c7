-- What a look-up finds.
use Rattle.std.proofs.Common.{◌≡◌, ℕ, zero, suc, List, [], ◌∷◌, get_or, Some, None, Option, unwrap_or, sym, refl, ap, ◌∙◌, Bor}
use Rattle.std.specs.List.{slice_get}
use Rattle.std.specs.Option.{option_map}
use Rattle.std.specs.Slice.{IsGetResult}
use Rattle.std.proofs.lemmas.Option.{slice_get_past, slice_get-get_or}
use Rattle.scheme.specs.declared.rows.Reach.{Reach}
use Rattle.scheme.specs.Scheme.{no_reach}

pub nth_from_item : {X : Type 0} (xs : List X) (i : ℕ) (o : Option (Bor X)) → IsGetResult xs i i o → option_map (λ x. x.now) o ≡ slice_get xs i
nth_from_item xs i None found = sym (slice_get_past xs i found.3)
nth_from_item xs i (Some x) found = ap Some (found.3.1 x.now) ∙ sym (slice_get-get_or xs i x.now found.3.0)

-- a field that is read, or what the field of no reach holds
field_or : (f : Reach → ℕ) (rs : List Reach) (k : ℕ) → unwrap_or (option_map f (slice_get rs k)) (f no_reach) ≡ f (get_or rs k no_reach)
field_or f [] k = refl
field_or f (r ∷ rs) zero = refl
field_or f (r ∷ rs) (suc k) = field_or f rs k

pub field_read :
    (f : Reach → ℕ) (rs : List Reach) (k : ℕ) (o : Option ℕ) (x : ℕ) → x ≡ unwrap_or o (f no_reach)
    → o ≡ option_map f (slice_get rs k) → x ≡ f (get_or rs k no_reach)
field_read f rs k o x given read = given ∙ ap (λ o. unwrap_or o (f no_reach)) read ∙ field_or f rs k

pub get_or_from_nth : {X : Type 0} (xs : List X) (i : ℕ) (d : X) → unwrap_or (slice_get xs i) d ≡ get_or xs i d
get_or_from_nth [] i d = refl
get_or_from_nth (x ∷ xs) zero d = refl
get_or_from_nth (x ∷ xs) (suc i) d = get_or_from_nth xs i d
