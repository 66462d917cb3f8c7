-- What is left out of a set of points, summed by the points outside.
use Rattle.std.proofs.Common.{◌≡◌, ℕ, ◌+◌, ◌<◌, ◌≤◌, Bool, true, false, cond, not, ◌&&◌, eqb, sum_by, refl, ap, ◌∙◌, arith}
use Rattle.std.proofs.ByRecursion.{All-weaker}
use Rattle.std.proofs.lemmas.Bool.{and_parts, and_from, eqb-true, not_from_false}
use Rattle.scheme.specs.declared.rows.Reach.{Reach}
use Rattle.scheme.specs.Scheme.{Scheme}
use Rattle.scheme.specs.Flow.{Points, leaves, left_on, left_back}
use Rattle.scheme.specs.Questions.{WellFormed}
use Rattle.scheme.specs.Crossings.{enters, left_across, left_out}
use Rattle.flows.specs.Ordering.{left_to, left_into}
use Rattle.scheme.proofs.SumLaws.{all_of, sum_by_mono, sum_by_same, sum_by_when, sum_below, below_plus, below_one, below_same, exchange}

-- what of f is for the points outside x
abbrev pub outside_of : Points → (ℕ → ℕ) → ℕ → ℕ
outside_of x f w = cond (not (x w)) (f w) 0

shut : (a b : Bool) (p : ℕ) → cond a (cond (b && false) p 0) 0 ≡ 0
shut true true p = refl
shut true false p = refl
shut false b p = refl

wide : (a b : Bool) (p : ℕ) → cond a (cond (b && true) p 0) 0 ≡ cond (a && b) p 0
wide true true p = refl
wide true false p = refl
wide false b p = refl

-- one reach leads to its head, and back to its tail
across_by_points :
    (x : Points) (n : ℕ) (r : Reach) → r.tail < n → r.head < n
    → sum_below n (outside_of x (λ w. left_to x w r)) ≡ left_across x r
across_by_points x n r t h =
    below_same (outside_of x (λ w. left_to x w r)) (λ w. on w + back w) n
    (λ w l. parted (x w) (eqb r.head w) (x r.tail) (eqb r.tail w) (x r.head) (left_on r) (left_back r))
    ∙ below_plus on back n
    ∙ ap (λ k. k + sum_below n back) (below_one r.head (λ w. cond (x r.tail && not (x w)) (left_on r) 0) n h)
    ∙ ap (λ k. left_over + k) (below_one r.tail (λ w. cond (x r.head && not (x w)) (left_back r) 0) n t)
  where
    on : ℕ → ℕ
    on w = cond (eqb r.head w) (cond (x r.tail && not (x w)) (left_on r) 0) 0

    back : ℕ → ℕ
    back w = cond (eqb r.tail w) (cond (x r.head && not (x w)) (left_back r) 0) 0

    left_over : ℕ
    left_over = cond (leaves x r) (left_on r) 0

    parted :
        (o a b c d : Bool) (p q : ℕ)
        → cond (not o) (cond (a && b) p 0 + cond (c && d) q 0) 0 ≡ cond a (cond (b && not o) p 0) 0 + cond c (cond (d && not o) q 0) 0
    parted true a b c d p q = omega (arith, shut a b p, shut c d q)
    parted false a b c d p q = omega (arith, wide a b p, wide c d q)

pub left_by_points :
    (s : Scheme) (x : Points) → WellFormed s → sum_below s.points (outside_of x (left_into s x)) ≡ left_out s x
left_by_points s x formed =
    below_same (outside_of x (left_into s x)) (λ w. sum_by (out w) s.reaches) s.points
    (λ w l. sum_by_when (not (x w)) (left_to x w) s.reaches)
    ∙ exchange out s.points s.reaches
    ∙ sum_by_same (λ r. sum_below s.points (λ w. out w r)) (left_across x) s.reaches
    (All-weaker _ _ (λ r j. across_by_points x s.points r j.tail_point j.head_point) s.reaches formed.joined)
  where
    out : ℕ → Reach → ℕ
    out w r = outside_of x (λ v. left_to x v r) w

-- a test that passes wherever another does lets as much through
pub lets_through : (c d : Bool) (a : ℕ) → (c ≡ true → d ≡ true) → cond c a 0 ≤ cond d a 0
lets_through true d a h = rw (h refl) (omega arith)
lets_through false d a h = omega arith

-- what is left from part of a set to a point outside the set is left out of the set
pub left_within :
    (s : Scheme) (x y : Points) (v : ℕ) → ((u : ℕ) → x u ≡ true → y u ≡ true) → y v ≡ false
    → left_into s x v ≤ left_out s y
left_within s x y v part out = sum_by_mono (left_to x v) (left_across y) s.reaches (all_of _ one s.reaches)
  where
    crosses : (end other : ℕ) → (eqb end v && x other) ≡ true → (y other && not (y end)) ≡ true
    crosses end other e =
        let parts = and_parts (eqb end v) (x other) e in
        and_from (y other) (not (y end)) (part other parts.1) (not_from_false (y end) (ap y (eqb-true end v parts.0) ∙ out))

    one : (r : Reach) → left_to x v r ≤ left_across y r
    one r =
        let on = lets_through (eqb r.head v && x r.tail) (leaves y r) (left_on r) (crosses r.head r.tail) in
        let back = lets_through (eqb r.tail v && x r.head) (enters y r) (left_back r) (crosses r.tail r.head) in
        omega arith
