-- One reach of a list changed.
use Rattle.std.proofs.Common.{◌≡◌, ℕ, ◌<◌, ◌≤◌, List, length, get_or, set, Some, None, refl}
use Rattle.std.proofs.lemmas.Option.{slice_get_past, slice_get_read}
use Rattle.std.proofs.lemmas.Bool.{lt-ltb, le-ltb}
use Rattle.scheme.specs.declared.faults.Layer.TheVariants.{Book}
use Rattle.scheme.specs.declared.rows.Reach.{Reach}
use Rattle.scheme.specs.Refusals.{unlisted, refused}
use Rattle.scheme.specs.Scheme.{Scheme, changed}

pub changed_past : (f : Reach → Reach) (rs : List Reach) (k : ℕ) → length rs ≤ k → changed f rs k ≡ rs
changed_past f rs k past = rw (slice_get_past rs k past, changed) refl

pub changed_at : (f : Reach → Reach) (rs : List Reach) (k : ℕ) (r : Reach) → k < length rs → r ≡ get_or rs k r → changed f rs k ≡ set rs k (f r)
changed_at f rs k r within read = rw (slice_get_read rs (length rs) k r refl within read, changed) refl

pub unlisted_past : (s : Scheme) (k : ℕ) → length s.reaches ≤ k → unlisted s k ≡ Some (refused Book 11 k)
unlisted_past s k past = rw (le-ltb k (length s.reaches) past) refl

pub unlisted_within : (s : Scheme) (k : ℕ) → k < length s.reaches → unlisted s k ≡ None
unlisted_within s k within = rw (lt-ltb k (length s.reaches) within) refl
