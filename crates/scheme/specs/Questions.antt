-- The questions put to a register, in their order. The first answered no is the refusal.
use Rattle.std.specs.Prelude.{ℕ, zero, suc, ◌+◌, ◌<◌, ◌≤◌, Bool, cond, not, ◌&&◌, ◌||◌, ◌≢◌, List, [], ◌∷◌, ◌++◌, length, Some, None, Option, ◌==◌, nat_le, nat_lt}
use Rattle.std.specs.Option.{option_map}
use Rattle.std.specs.List.{AllByRecursion}
use Rattle.scheme.specs.declared.faults.Layer.TheVariants.{Book}
use Rattle.scheme.specs.declared.faults.Refusal.{Refusal}
use Rattle.scheme.specs.declared.rows.Reach.{Reach}
use Rattle.scheme.specs.Bounds.{greatest_limit, most_points, most_reaches}
use Rattle.scheme.specs.Scheme.{Scheme}
use Rattle.scheme.specs.Flow.{inflow, outflow}
use Rattle.scheme.specs.Refusals.{refused}

-- A question that was put: nothing where the answer is yes, and else the refusal.
abbrev pub Question : Type 0
Question = Option Refusal

abbrev pub or_else : Question → Question → Question
or_else None later = later
or_else (Some refusal) later = Some refusal

abbrev pub first_no : List Question → Question
first_no [] = None
first_no (q ∷ qs) = or_else q (first_no qs)

-- the place of the first that fails the test, counted from k
abbrev pub first_fail : {X : Type 0} → (X → Bool) → ℕ → List X → Option ℕ
first_fail p k [] = None
first_fail p k (x ∷ xs) = cond (p x) (first_fail p (k + 1) xs) (Some k)

-- the first of n points, counted from v, that fails the test
abbrev pub first_point : (ℕ → Bool) → ℕ → ℕ → Option ℕ
first_point p v zero = None
first_point p v (suc n) = cond (p v) (first_point p (v + 1) n) (Some v)

-- Is n from 2 to 512, are there at most 8,192 reaches, and are inlet and outlet two different points?
abbrev pub shaped : Scheme → Bool
shaped s =
    nat_le 2 s.points && nat_le s.points most_points && nat_le (length s.reaches) most_reaches
    && nat_lt s.inlet s.points && nat_lt s.outlet s.points && not (s.inlet == s.outlet)

abbrev pub ask_shape : Scheme → Question
ask_shape s = cond (shaped s) None (Some (refused Book 6 0))

-- Are tail and head two different points, and is the limit at most 1,000,000?
abbrev pub joins : Scheme → Reach → Bool
joins s r =
    nat_lt r.tail s.points && nat_lt r.head s.points && not (r.tail == r.head) && nat_le r.limit greatest_limit

abbrev pub ask_ends : Scheme → Question
ask_ends s = option_map (refused Book 7) (first_fail (joins s) 0 s.reaches)

-- Is the flow at most the limit?
abbrev pub carries : Reach → Bool
carries r = nat_le r.flow r.limit

abbrev pub ask_flows : Scheme → Question
ask_flows s = option_map (refused Book 8) (first_fail carries 0 s.reaches)

-- Does an inner point balance?
abbrev pub steady : Scheme → ℕ → Bool
steady s v = v == s.inlet || (v == s.outlet || inflow s v == outflow s v)

abbrev pub ask_balance : Scheme → Question
ask_balance s = option_map (refused Book 9) (first_point (steady s) 0 s.points)

-- what is asked of a book before it is opened
abbrev pub form_questions : Scheme → List Question
form_questions s = ask_shape s ∷ ask_ends s ∷ []

-- what is asked of its flow
abbrev pub flow_questions : Scheme → List Question
flow_questions s = ask_flows s ∷ ask_balance s ∷ []

abbrev pub book_questions : Scheme → List Question
book_questions s = form_questions s ++ flow_questions s

-- What the form questions ask, as facts: a well-formed register.
pub record Joined (s : Scheme) (r : Reach) : Type 0 where
  pub tail_point : r.tail < s.points
  pub head_point : r.head < s.points
  pub apart : r.tail ≢ r.head
  pub bounded : r.limit ≤ greatest_limit

pub record WellFormed (s : Scheme) : Type 0 where
  pub some_points : 2 ≤ s.points
  pub few_points : s.points ≤ most_points
  pub few_reaches : length s.reaches ≤ most_reaches
  pub inlet_point : s.inlet < s.points
  pub outlet_point : s.outlet < s.points
  pub apart : s.inlet ≢ s.outlet
  pub joined : AllByRecursion (Joined s) s.reaches
