-- Marks for the points of a side.
use Rattle.std.proofs.Common.{◌≡◌, ℕ, zero, suc, ◌+◌, ◌<◌, ◌≤◌, max, false, ◌||◌, eqb, List, [], ◌∷◌, ◌++◌, length, get_or, take, set, replicate, sym, refl, ap, ◌∙◌, ⊎_elim, arith}
use Rattle.std.proofs.Math.Bool.{or_assoc, or-false, or-true}
use Rattle.std.proofs.lemmas.List.{take_more, get_or-set_same, get_or-set_other}
use Rattle.std.proofs.lemmas.Bool.{cases_eq, eq-eqb, ne_eqb}
use Rattle.std.specs.List.{AllByRecursion}
use Rattle.scheme.specs.Marks.{marked}
use Rattle.scheme.specs.Flow.{among}
use Rattle.claims.specs.Sides.{extent}

among_push : (ws : List ℕ) (w v : ℕ) → among (ws ++ w ∷ []) v ≡ (among ws v || eqb w v)
among_push [] w v = or-false (eqb w v)
among_push (u ∷ ws) w v =
    ap (λ b. eqb u v || b) (among_push ws w v) ∙ sym (or_assoc (eqb u v) (among ws v) (eqb w v))

-- one mark more is set
marked_set : (marks : List ℕ) (p v : ℕ) → p < length marks → marked (set marks p 1) v ≡ (marked marks v || eqb p v)
marked_set marks p v within =
    ⊎_elim
    (λ here.
    ap (λ w. marked (set marks w 1) v) here
    ∙ ap (λ m. eqb m 1) (get_or-set_same marks v 1 0 (omega arith))
    ∙ sym (ap (λ b. marked marks v || b) (eq-eqb p v here) ∙ or-true (marked marks v)))
    (λ apart.
    ap (λ m. eqb m 1) (get_or-set_other marks p v 1 0 (λ e. apart (sym e)))
    ∙ sym (ap (λ b. marked marks v || b) (ne_eqb p v apart) ∙ or-false (marked marks v)))
    (cases_eq p v)

pub marked_more : (marks side : List ℕ) (i v : ℕ) → i < length side → get_or side i 0 < length marks → marked marks v ≡ among (take i side) v → marked (set marks (get_or side i 0) 1) v ≡ among (take (i + 1) side) v
marked_more marks side i v within room sofar =
    marked_set marks (get_or side i 0) v room
    ∙ ap (λ b. b || eqb (get_or side i 0) v) sofar
    ∙ sym (ap (λ ws. among ws v) (take_more side i 0 within) ∙ among_push (take i side) (get_or side i 0) v)

-- before the first mark is set

pub none_marked : (n v : ℕ) → marked (replicate n 0) v ≡ false
none_marked zero v = refl
none_marked (suc n) zero = refl
none_marked (suc n) (suc v) = none_marked n v

pub zeros_are_bits : (n : ℕ) → AllByRecursion (λ m. m ≤ 1) (replicate n 0)
zeros_are_bits zero = tt
zeros_are_bits (suc n) = (omega arith, zeros_are_bits n)

-- there is a mark for every point of the side

extent_starts : (n : ℕ) (side : List ℕ) → n ≤ extent n side
extent_starts n [] = omega arith
extent_starts n (w ∷ side) = let h = extent_starts (max n (w + 1)) side in omega arith

pub extent_covers : (n : ℕ) (side : List ℕ) (i : ℕ) → i < length side → get_or side i 0 < extent n side
extent_covers n [] i within = absurd (omega arith)
extent_covers n (w ∷ side) zero within = let h = extent_starts (max n (w + 1)) side in omega arith
extent_covers n (w ∷ side) (suc i) within = extent_covers (max n (w + 1)) side i (omega arith)
