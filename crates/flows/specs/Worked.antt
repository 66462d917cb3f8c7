-- The worked schemes: what rounds do to them, by computation.
use Rattle.std.specs.Prelude.{◌≡◌, ℕ, [], ◌∷◌, pos, negsuc}
use Rattle.scheme.specs.declared.rows.Reach.{Reach}
use Rattle.scheme.specs.Scheme.{Scheme, with_limit, with_flows}
use Rattle.scheme.specs.Flow.{value, capacity, among}
use Rattle.flows.specs.Ordering.{Made}
use Rattle.flows.specs.Round.{Round, Settled}

abbrev pub reach : ℕ → ℕ → ℕ → ℕ → Reach
reach tail head limit flow = record { tail = tail; head = head; limit = limit; flow = flow }

-- four points, from 0 to 3, with no flow
abbrev pub example : Scheme
example =
    record {
      points = 4;
      inlet = 0;
      outlet = 3;
      reaches = reach 0 1 5 0 ∷ reach 0 2 4 0 ∷ reach 1 2 3 0 ∷ reach 1 3 2 0 ∷ reach 2 3 6 0 ∷ [];
    }

abbrev pub after_one : Scheme
after_one = with_flows example (2 ∷ 3 ∷ 0 ∷ 2 ∷ 3 ∷ [])

abbrev pub after_two : Scheme
after_two = with_flows example (4 ∷ 4 ∷ 2 ∷ 2 ∷ 6 ∷ [])

-- the same with a greater limit on the last reach, and with that settled
abbrev pub widened : Scheme
widened = with_limit after_two 4 7

abbrev pub widened_after : Scheme
widened_after = with_flows widened (5 ∷ 4 ∷ 3 ∷ 2 ∷ 7 ∷ [])

-- two points that two reaches join
abbrev pub twins : Scheme
twins = record { points = 2; inlet = 0; outlet = 1; reaches = reach 0 1 3 0 ∷ reach 0 1 4 0 ∷ [] }

-- two points, and water that runs back into the inlet
abbrev pub backward : Scheme
backward = record { points = 2; inlet = 0; outlet = 1; reaches = reach 1 0 5 5 ∷ [] }

-- two ways of equal width from 0 to 3
abbrev pub diamond : Scheme
diamond =
    record {
      points = 4;
      inlet = 0;
      outlet = 3;
      reaches = reach 0 1 1 0 ∷ reach 0 2 1 0 ∷ reach 1 3 1 0 ∷ reach 2 3 1 0 ∷ [];
    }

-- what comes of them, where the example's two rounds gain the two numbers
pub record WorkedSchemes (first second : ℕ) : Type 0 where
  pub round_one : Round example (0 ∷ 1 ∷ 2 ∷ 3 ∷ []) (5 ∷ 7 ∷ 8 ∷ []) first after_one
  pub round_two : Round after_one (0 ∷ 1 ∷ 2 ∷ 3 ∷ []) (3 ∷ 4 ∷ 3 ∷ []) second after_two
  pub then_none : Made after_two (0 ∷ 1 ∷ 2 ∷ []) (1 ∷ 1 ∷ []) 0
  pub settled : Settled example 2 after_two
  pub value_two : value after_two ≡ pos 8
  -- a greater limit makes room for one round more
  pub round_three : Round widened (0 ∷ 1 ∷ 2 ∷ 3 ∷ []) (1 ∷ 1 ∷ 1 ∷ []) 1 widened_after
  pub then_inlet_alone : Made widened_after (0 ∷ []) [] 0
  pub settled_again : Settled widened 1 widened_after
  pub value_three : value widened_after ≡ pos 9
  -- three sides of that capacity, of which the ordering finds the least
  pub side_0 : capacity widened_after (among (0 ∷ [])) ≡ 9
  pub side_0_1 : capacity widened_after (among (0 ∷ 1 ∷ [])) ≡ 9
  pub side_0_1_2 : capacity widened_after (among (0 ∷ 1 ∷ 2 ∷ [])) ≡ 9
  -- both reaches count for one key
  pub round_twins : Round twins (0 ∷ 1 ∷ []) (7 ∷ []) 7 (with_flows twins (3 ∷ 4 ∷ []))
  -- flow that is taken back
  pub value_backward : value backward ≡ negsuc 4
  pub round_backward : Round backward (0 ∷ 1 ∷ []) (5 ∷ []) 5 (with_flows backward (0 ∷ []))
  -- which of two equal points is taken is free
  pub round_by_1 : Round diamond (0 ∷ 1 ∷ 3 ∷ []) (1 ∷ 1 ∷ []) 1 (with_flows diamond (1 ∷ 0 ∷ 1 ∷ 0 ∷ []))
  pub round_by_2 : Round diamond (0 ∷ 2 ∷ 3 ∷ []) (1 ∷ 1 ∷ []) 1 (with_flows diamond (0 ∷ 1 ∷ 0 ∷ 1 ∷ []))
