-- The key of each point, at once and after a call.
use Rattle.std.proofs.Common.{◌≡◌, ℕ, suc, ◌+◌, ◌-◌, ◌<◌, ◌≤◌, cond, ltb, [], ◌∷◌, ◌++◌, set, replicate, Some, None, Option, sym, ap, ◌∙◌, append_assoc, arith}
use Rattle.std.proofs.lemmas.List.{get_or_past, get_or-replicate, get_or_append_left, get_or-append_right, length-append, length-replicate, set_at, replicate_more}
use Rattle.std.proofs.lemmas.Bool.{lt-ltb, le-ltb}
use Rattle.pick.specs.Keys.{Keys, size, key_of, Outside}
use Rattle.pick.specs.Calls.{fresh, started}

pub inside_past : (ks : Keys) (v : ℕ) → size ks ≤ v → key_of ks v ≡ None
inside_past ks v past = get_or_past ks v None past

pub outside_below : (ks : Keys) (v k : ℕ) → Outside ks v k → v < size ks
outside_below ks v k out = grind (arith, inside_past)

-- no point of a fresh pick is outside
pub key_of_fresh : (points v : ℕ) → key_of (fresh points) v ≡ None
key_of_fresh points v = grind (arith, get_or-replicate, inside_past, length-replicate)

pub size_started : (points n : ℕ) → n ≤ points → size (started points n) ≡ points
size_started points n le = simp (length-append, length-replicate) (omega arith)

fill_next : (n : ℕ) (x y : Option ℕ) (rest : Keys) → set (replicate n x ++ y ∷ rest) n x ≡ replicate (n + 1) x ++ rest
fill_next n x y rest =
    set_at (replicate n x) y rest x n (length-replicate n x)
    ∙ sym (append_assoc (replicate n x) (x ∷ []) rest)
    ∙ ap (λ front. front ++ rest) (replicate_more n x)

-- a start puts out one point after another
pub started_more : (points n : ℕ) → n < points → set (started points n) n (Some 0) ≡ started points (n + 1)
started_more points n lt =
    let one_more : points - n ≡ suc (points - (n + 1)) = omega arith in
    rw one_more (fill_next n (Some 0) None (replicate (points - (n + 1)) None))

-- after a start exactly the points below n are outside, with key 0
pub key_of_started : (points n v : ℕ) → n ≤ points → key_of (started points n) v ≡ cond (ltb v n) (Some 0) None
key_of_started points n v le = grind (arith, get_or_append_left, get_or-append_right, get_or-replicate, key_of_fresh, length-replicate, lt-ltb, le-ltb)

-- the next point that a start puts out is still inside
pub next_inside : (points n : ℕ) → n ≤ points → key_of (started points n) n ≡ None
next_inside points n le = grind (arith, key_of_started, le-ltb)
