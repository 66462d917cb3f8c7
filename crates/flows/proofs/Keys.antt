-- What the proofs use of the rule by which keys grow. The first two hold of any rule by which a key is never less
-- than the smaller of the taken key and what is left, nor more than the old key and what is left together.
use Rattle.std.proofs.Common.{◌≡◌, ℕ, ◌+◌, ◌≤◌, Bool, true, false, cond, ◌&&◌, ◌||◌, eqb, List, take, sym, refl, ◌∙◌, arith}
use Rattle.std.proofs.ByRecursion.{All-weaker, sum_by_le}
use Rattle.std.proofs.lemmas.List.Sums.{sum_by_from, sum_by-take-le}
use Rattle.std.proofs.lemmas.Bool.{both_ways, eqb-true}
use Rattle.scheme.specs.declared.rows.Reach.{Reach}
use Rattle.scheme.specs.Scheme.{Scheme}
use Rattle.scheme.specs.Flow.{Points, Lawful, left_on, left_back, among}
use Rattle.scheme.specs.Questions.{WellFormed, Joined}
use Rattle.flows.specs.Ordering.{left_to, left_into, key, with_point, grown_from, start_key, Made}
use Rattle.flows.specs.Ordering.Made.{arrives, stops}
use Rattle.flows.specs.OrderingLaws.{KeysGrowPointByPoint, KeysStayWithin}
use Rattle.flows.proofs.Borders.{lets_through}
use Rattle.flows.proofs.Orders.{least_at_most}
use Rattle.scheme.proofs.SumLaws.{all_of, all_both, sum_by_same, sum_by_plus}

module _ (s : Scheme) (x : Points) (v : ℕ) where
  pub key_at_most_left : key s x v ≤ left_into s x v
  key_at_most_left = omega arith

  pub no_key_nothing_left : key s x v ≡ 0 → left_into s x v ≡ 0
  no_key_nothing_left h = h

  -- this one needs the sum as the rule
  pub left_at_most_key : left_into s x v ≤ key s x v
  left_at_most_key = omega arith

from_any : (s : Scheme) (x : Points) (v : ℕ) → WellFormed s → Lawful s → key s x v ≤ start_key
from_any s x v formed lawful =
    let facts = all_both (Joined s) (λ r. r.flow ≤ r.limit) s.reaches formed.joined lawful.within in
    let each = All-weaker _ (λ r. left_to x v r ≤ 2000000) one s.reaches facts in
    let sum = sum_by_le (left_to x v) 2000000 s.reaches each in
    let least = key_at_most_left s x v in
    omega (arith, formed.few_reaches)
  where
    one : (r : Reach) → Joined s r × (r.flow ≤ r.limit) → left_to x v r ≤ 2000000
    one r h =
        let on = lets_through (eqb r.head v && x r.tail) true (left_on r) (λ _. refl) in
        let back = lets_through (eqb r.tail v && x r.head) true (left_back r) (λ _. refl) in
        omega (arith, h.0.bounded)

-- ---- one point more

-- what is left from x and u together is left from either
left_parts :
    (x : Points) (u v : ℕ) → x u ≡ false → (r : Reach) → left_to (with_point x u) v r ≡ left_to x v r + left_to (eqb u) v r
left_parts x u v out r =
    let on = part (eqb r.head v) (x r.tail) (eqb u r.tail) (left_on r) (apart r.tail) in
    let back = part (eqb r.tail v) (x r.head) (eqb u r.head) (left_back r) (apart r.head) in
    omega arith
  where
    apart : (w : ℕ) → eqb u w ≡ true → x w ≡ false
    apart w e = rw (← eqb-true u w e) out

    part :
        (a b c : Bool) (k : ℕ) → (c ≡ true → b ≡ false)
        → cond (a && (b || c)) k 0 ≡ cond (a && b) k 0 + cond (a && c) k 0
    part false b c k e = refl
    part true true true k e = absurd (both_ways true (e refl) refl)
    part true true false k e = omega arith
    part true false true k e = omega arith
    part true false false k e = refl

pub keys_grow : KeysGrowPointByPoint
keys_grow s x u v out =
    sum_by_same (left_to (with_point x u) v) (λ r. left_to x v r + left_to (eqb u) v r) s.reaches (all_of _ (left_parts x u v out) s.reaches)
    ∙ sum_by_plus (left_to x v) (left_to (eqb u) v) s.reaches ∙ sym (sum_by_from (left_to (eqb u) v) (key s x v) s.reaches)

on_the_way :
    (s : Scheme) (x : Points) (u v count : ℕ) → WellFormed s → Lawful s → x u ≡ false
    → grown_from u v (take count s.reaches) (key s x v) ≤ start_key
on_the_way s x u v count formed lawful out =
    let whole = sum_by_from (left_to (eqb u) v) (key s x v) s.reaches in
    let part = sum_by_from (left_to (eqb u) v) (key s x v) (take count s.reaches) in
    let less = sum_by-take-le (left_to (eqb u) v) s.reaches count in
    omega (arith, keys_grow s x u v out, from_any s (with_point x u) v formed lawful)

-- the gain is at most the outlet's key, or 0
gain_within :
    (s : Scheme) {order keys : List ℕ} (gain : ℕ) → WellFormed s → Lawful s → Made s order keys gain → gain ≤ start_key
gain_within s gain formed lawful (arrives {ws = ws} {ks = ks} {k = k} taken n above) =
    omega (arith, least_at_most ks k, n.is, from_any s (among ws) s.outlet formed lawful)
gain_within s gain formed lawful (stops taken n) = omega arith

pub keys_within : KeysStayWithin start_key
keys_within s formed lawful =
    record {
      start = refl;
      from_any = λ x v. from_any s x v formed lawful;
      on_the_way = λ x u v count out. on_the_way s x u v count formed lawful out;
      gains = λ order keys gain made. gain_within s gain formed lawful made;
    }
