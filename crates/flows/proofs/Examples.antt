-- The worked schemes: each next point is checked against every other by a test that computes.
use Rattle.std.proofs.Common.{◌≡◌, ℕ, zero, suc, Bool, true, false, not, ◌&&◌, ◌||◌, eqb, ltb, leb, List, [], ◌∷◌, ◌++◌, refl, ⊎_elim}
use Rattle.std.proofs.lemmas.Bool.{and_parts, or_cases, both_ways, eqb-true, leb-true, ltb-true, not-true}
use Rattle.std.proofs.lemmas.Bool.Decides.{Decides-below_and}
use Rattle.scheme.specs.Scheme.{Scheme}
use Rattle.scheme.specs.Flow.{Points, among}
use Rattle.flows.specs.Ordering.{key, least, Next, Taken, Made}
use Rattle.flows.specs.Ordering.Taken.{first, next}
use Rattle.flows.specs.Ordering.Made.{arrives, stops}
use Rattle.flows.specs.Round.{Round}
use Rattle.flows.specs.Round.Rounds.{none, more}
use Rattle.flows.specs.Worked.{example, after_one, after_two, widened, widened_after, twins, backward, diamond, WorkedSchemes}

abbrev all_below : (ℕ → Bool) → ℕ → Bool
all_below p zero = true
all_below p (suc n) = p n && all_below p n

abbrev no_greater : Scheme → Points → ℕ → ℕ → Bool
no_greater s x k w = x w || leb (key s x w) k

abbrev may_come : Scheme → Points → ℕ → ℕ → Bool
may_come s x v k = ltb v s.points && (not (x v) && (eqb k (key s x v) && all_below (no_greater s x k) s.points))

next_by_test : (s : Scheme) (x : Points) (v k : ℕ) → may_come s x v k ≡ true → Next s x v k
next_by_test s x v k test =
    let point = and_parts (ltb v s.points) (not (x v) && (eqb k (key s x v) && all_below (no_greater s x k) s.points)) test in
    let out = and_parts (not (x v)) (eqb k (key s x v) && all_below (no_greater s x k) s.points) point.1 in
    let is = and_parts (eqb k (key s x v)) (all_below (no_greater s x k) s.points) out.1 in
    let p : ℕ → Bool = no_greater s x k in
    let each = Decides-below_and p (λ w. p w ≡ true) (all_below p) (λ w. (λ h. h, λ h. h)) refl (λ _. refl) s.points in
    record {
      outside = (ltb-true v s.points point.0, not-true (x v) out.0);
      is = eqb-true k (key s x v) is.0;
      greatest = λ w o.
          ⊎_elim (λ t. absurd (both_ways (x w) o.1 t)) (λ t. leb-true (key s x w) k t)
          (or_cases (x w) (leb (key s x w) k) (each.0 is.1 w o.0));
    }

-- one point more, and the two ways to end
taken :
    (s : Scheme) (ws ks : List ℕ) (v k : ℕ) → Taken s ws ks → may_come s (among ws) v k ≡ true → ltb 0 k ≡ true
    → eqb v s.outlet ≡ false → Taken s (ws ++ v ∷ []) (ks ++ k ∷ [])
taken s ws ks v k before test above inner = next before (next_by_test s (among ws) v k test) (ltb-true 0 k above) inner

arrived :
    (s : Scheme) (ws ks : List ℕ) (k : ℕ) → Taken s ws ks → may_come s (among ws) s.outlet k ≡ true → ltb 0 k ≡ true
    → Made s (ws ++ s.outlet ∷ []) (ks ++ k ∷ []) (least ks k)
arrived s ws ks k before test above = arrives before (next_by_test s (among ws) s.outlet k test) (ltb-true 0 k above)

stopped : (s : Scheme) (ws ks : List ℕ) (v : ℕ) → Taken s ws ks → may_come s (among ws) v 0 ≡ true → Made s ws ks 0
stopped s ws ks v before test = stops before (next_by_test s (among ws) v 0 test)

one : Round example (0 ∷ 1 ∷ 2 ∷ 3 ∷ []) (5 ∷ 7 ∷ 8 ∷ []) 5 after_one
one =
    record {
      made =
          arrived example (0 ∷ 1 ∷ 2 ∷ []) (5 ∷ 7 ∷ []) 8
          (taken example (0 ∷ 1 ∷ []) (5 ∷ []) 2 7 (taken example (0 ∷ []) [] 1 5 first refl refl refl) refl refl refl)
          refl refl;
      after = refl;
    }

two : Round after_one (0 ∷ 1 ∷ 2 ∷ 3 ∷ []) (3 ∷ 4 ∷ 3 ∷ []) 3 after_two
two =
    record {
      made =
          arrived after_one (0 ∷ 1 ∷ 2 ∷ []) (3 ∷ 4 ∷ []) 3
          (taken after_one (0 ∷ 1 ∷ []) (3 ∷ []) 2 4 (taken after_one (0 ∷ []) [] 1 3 first refl refl refl) refl refl refl)
          refl refl;
      after = refl;
    }

then_none : Made after_two (0 ∷ 1 ∷ 2 ∷ []) (1 ∷ 1 ∷ []) 0
then_none =
    stopped after_two (0 ∷ 1 ∷ 2 ∷ []) (1 ∷ 1 ∷ []) 3
    (taken after_two (0 ∷ 1 ∷ []) (1 ∷ []) 2 1 (taken after_two (0 ∷ []) [] 1 1 first refl refl refl) refl refl refl) refl

three : Round widened (0 ∷ 1 ∷ 2 ∷ 3 ∷ []) (1 ∷ 1 ∷ 1 ∷ []) 1 widened_after
three =
    record {
      made =
          arrived widened (0 ∷ 1 ∷ 2 ∷ []) (1 ∷ 1 ∷ []) 1
          (taken widened (0 ∷ 1 ∷ []) (1 ∷ []) 2 1 (taken widened (0 ∷ []) [] 1 1 first refl refl refl) refl refl refl)
          refl refl;
      after = refl;
    }

then_inlet_alone : Made widened_after (0 ∷ []) [] 0
then_inlet_alone = stopped widened_after (0 ∷ []) [] 1 first refl

pub worked : WorkedSchemes 5 3
worked =
    record {
      round_one = one;
      round_two = two;
      then_none = then_none;
      settled = record {
        rounds = more one (ltb-true 0 5 refl) (more two (ltb-true 0 3 refl) none);
        order = 0 ∷ 1 ∷ 2 ∷ [];
        keys = 1 ∷ 1 ∷ [];
        ended = then_none;
      };
      value_two = refl;
      round_three = three;
      then_inlet_alone = then_inlet_alone;
      settled_again = record {
        rounds = more three (ltb-true 0 1 refl) none;
        order = 0 ∷ [];
        keys = [];
        ended = then_inlet_alone;
      };
      value_three = refl;
      side_0 = refl;
      side_0_1 = refl;
      side_0_1_2 = refl;
      round_twins = record { made = arrived twins (0 ∷ []) [] 7 first refl refl; after = refl };
      value_backward = refl;
      round_backward = record { made = arrived backward (0 ∷ []) [] 5 first refl refl; after = refl };
      round_by_1 = record {
        made = arrived diamond (0 ∷ 1 ∷ []) (1 ∷ []) 1 (taken diamond (0 ∷ []) [] 1 1 first refl refl refl) refl refl;
        after = refl;
      };
      round_by_2 = record {
        made = arrived diamond (0 ∷ 2 ∷ []) (1 ∷ []) 1 (taken diamond (0 ∷ []) [] 2 1 first refl refl refl) refl refl;
        after = refl;
      };
    }
