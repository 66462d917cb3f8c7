-- Flows and sides of a register turned round.
use Rattle.std.proofs.Common.{◌≡◌, ℕ, ◌+◌, ◌<◌, ◌≤◌, cond, not, eqb, List, [], ◌∷◌, map, ℤ, ◌≤ℤ◌, sum_by, sym, refl, ap, ◌∙◌, subst, arith}
use Rattle.std.proofs.ByRecursion.{All-map, All-weaker}
use Rattle.std.proofs.Math.Bool.{and_comm, not-not}
use Rattle.std.proofs.lemmas.List.{length-map}
use Rattle.std.proofs.lemmas.Bool.{not-true, not-false, not_from_true, not_from_false}
use Rattle.scheme.specs.declared.rows.Reach.{Reach}
use Rattle.scheme.specs.Scheme.{Scheme, over, with_flows}
use Rattle.scheme.specs.Flow.{Lawful, value, inflow, outflow, Points, leaves, Greatest}
use Rattle.scheme.specs.Questions.{WellFormed, Joined}
use Rattle.layers.specs.Turns.{turned, turned_reach}
use Rattle.layers.specs.TurnLaws.{TurnedTwiceIsItself, LawfulAboveAsBelow, ValueAsBelow, SideIfRestIs, CapacityOfRest, WellFormedAsBelow, GreatestAsBelow, rest}
use Rattle.layers.proofs.LaidFlows.{flows_map, formed_flows}
use Rattle.scheme.proofs.Signs.{same_differences}
use Rattle.scheme.proofs.SumLaws.{all_of, sum_below, sum_by_same, below_one, exchange}
use Rattle.layers.proofs.Totals.{sum_by_map, differ_at_two}

-- turning twice

turned_reaches : (rs : List Reach) → map turned_reach (map turned_reach rs) ≡ rs
turned_reaches [] = refl
turned_reaches (r ∷ rs) = ap (λ tail. r ∷ tail) (turned_reaches rs)

pub turned_twice : TurnedTwiceIsItself
turned_twice s = ap (over s) (turned_reaches s.reaches)

-- what enters a point above leaves it below

pub inflow_turned : (s : Scheme) (v : ℕ) → inflow (turned s) v ≡ outflow s v
inflow_turned s v = sum_by_map (λ r. cond (eqb r.head v) r.flow 0) turned_reach s.reaches

pub outflow_turned : (s : Scheme) (v : ℕ) → outflow (turned s) v ≡ inflow s v
outflow_turned s v = sum_by_map (λ r. cond (eqb r.tail v) r.flow 0) turned_reach s.reaches

lawful_turned : (s : Scheme) → Lawful s → Lawful (turned s)
lawful_turned s lawful =
    record {
      within = All-map (λ r. r.flow ≤ r.limit) turned_reach s.reaches lawful.within;
      balanced =
          λ v point not-inlet not-outlet.
          inflow_turned s v ∙ sym (lawful.balanced v point not-outlet not-inlet) ∙ sym (outflow_turned s v);
    }

pub lawful_above_as_below : LawfulAboveAsBelow
lawful_above_as_below s = ((λ lawful. subst Lawful (turned_twice s) (lawful_turned (turned s) lawful)), lawful_turned s)

-- form

pub well_formed_as_below : WellFormedAsBelow
well_formed_as_below s formed =
    record {
      some_points = formed.some_points;
      few_points = formed.few_points;
      few_reaches = omega (arith, formed.few_reaches, length-map s.reaches turned_reach);
      inlet_point = formed.outlet_point;
      outlet_point = formed.inlet_point;
      apart = λ same. formed.apart (sym same);
      joined =
          All-map (Joined (turned s)) turned_reach s.reaches
          (All-weaker (Joined s) (λ r. Joined (turned s) (turned_reach r))
          (λ r j.
          record {
            tail_point = j.head_point;
            head_point = j.tail_point;
            apart = λ same. j.apart (sym same);
            bounded = j.bounded;
          })
          s.reaches formed.joined);
    }

-- The value. Over all points together, as much leaves as enters: every reach has both its ends among the points.
-- All points but inlet and outlet balance, so those two do together.

module _ (s : Scheme) (formed : WellFormed s) where
  total_flow : (end : Reach → ℕ) → ((r : Reach) → Joined s r → end r < s.points) → sum_below s.points (λ v. sum_by (λ r. cond (eqb (end r) v) r.flow 0) s.reaches) ≡ sum_by (λ r. r.flow) s.reaches
  total_flow end point =
      exchange (λ v r. cond (eqb (end r) v) r.flow 0) s.points s.reaches
      ∙ sum_by_same _ (λ r. r.flow) s.reaches
      (All-weaker (Joined s) (λ r. sum_below s.points (λ v. cond (eqb (end r) v) r.flow 0) ≡ r.flow)
      (λ r j. below_one (end r) (λ v. r.flow) s.points (point r j)) s.reaches formed.joined)

  pub ends_balance : Lawful s → inflow s s.inlet + inflow s s.outlet ≡ outflow s s.inlet + outflow s s.outlet
  ends_balance lawful =
      differ_at_two (inflow s) (outflow s) s.inlet s.outlet s.points
      formed.inlet_point formed.outlet_point formed.apart lawful.balanced
      (total_flow (λ r. r.head) (λ r j. j.head_point) ∙ sym (total_flow (λ r. r.tail) (λ r j. j.tail_point)))

pub value_as_below : ValueAsBelow
value_as_below s formed lawful =
    rw (outflow_turned s s.outlet, inflow_turned s s.outlet)
    (same_differences (inflow s s.outlet) (outflow s s.outlet) (outflow s s.inlet) (inflow s s.inlet)
    (omega (arith, ends_balance s formed lawful)))

-- the greatest value

flows_turned : (s : Scheme) (fs : List ℕ) → with_flows (turned s) fs ≡ turned (with_flows s fs)
flows_turned s fs = ap (over (turned s)) (flows_map turned_reach (λ f r. refl) s.reaches fs)

laid_down : (s : Scheme) (fs : List ℕ) → Lawful (with_flows (turned s) fs) → Lawful (with_flows s fs)
laid_down s fs lawful = (lawful_above_as_below (with_flows s fs)).0 (subst Lawful (flows_turned s fs) lawful)

laid_value : (s : Scheme) (fs : List ℕ) → WellFormed s → Lawful (with_flows s fs) → value (with_flows (turned s) fs) ≡ value (with_flows s fs)
laid_value s fs formed lawful = ap value (flows_turned s fs) ∙ value_as_below (with_flows s fs) (formed_flows s fs formed) lawful

greatest_down : (s : Scheme) (z : ℤ) → WellFormed s → Greatest (turned s) z → Greatest s z
greatest_down s z formed greatest =
    let lawful = laid_down s greatest.flows greatest.lawful in
    record {
      flows = greatest.flows;
      covers = greatest.covers ∙ length-map s.reaches turned_reach;
      lawful = lawful;
      reached = sym (laid_value s greatest.flows formed lawful) ∙ greatest.reached;
      most =
          λ fs long below.
          subst (λ x. x ≤ℤ z) (laid_value s fs formed below)
          (greatest.most fs (long ∙ sym (length-map s.reaches turned_reach))
          (subst Lawful (sym (flows_turned s fs)) (lawful_turned (with_flows s fs) below)));
    }

pub greatest_as_below : GreatestAsBelow
greatest_as_below s z formed = (
  greatest_down s z formed,
  λ greatest.
      greatest_down (turned s) z (well_formed_as_below s formed) (subst (λ t. Greatest t z) (sym (turned_twice s)) greatest),
)

-- sides

pub side_if_rest_is : SideIfRestIs
side_if_rest_is s x = (
  (λ side. record { holds = not_from_false (x s.inlet) side.lacks; lacks = not_from_true (x s.outlet) side.holds }),
  (λ side. record { holds = not-false (x s.outlet) side.lacks; lacks = not-true (x s.inlet) side.holds }),
)

leaves_turned : (x : Points) (r : Reach) → leaves x (turned_reach r) ≡ leaves (rest x) r
leaves_turned x r = rw not-not (and_comm (x r.head) (not (x r.tail)))

pub capacity_of_rest : CapacityOfRest
capacity_of_rest s x =
    sum_by_map (λ r. cond (leaves x r) r.limit 0) turned_reach s.reaches
    ∙ sum_by_same (λ r. cond (leaves x (turned_reach r)) r.limit 0) (λ r. cond (leaves (rest x) r) r.limit 0) s.reaches
    (all_of (λ r. cond (leaves x (turned_reach r)) r.limit 0 ≡ cond (leaves (rest x) r) r.limit 0)
    (λ r. ap (λ b. cond b r.limit 0) (leaves_turned x r)) s.reaches)
