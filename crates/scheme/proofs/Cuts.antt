-- What leaves a side and what enters it.
use Rattle.std.proofs.Common.{◌≡◌, ℕ, ◌+◌, ◌-◌, ◌<◌, ◌≤◌, Bool, true, false, cond, not, ◌&&◌, eqb, List, length, ◌≤ℤ◌, sum_by, sym, refl, ap, ◌∙◌, ⊎_elim, arith}
use Rattle.std.specs.List.{AllByRecursion}
use Rattle.std.proofs.lemmas.List.{length-map}
use Rattle.std.proofs.lemmas.Int.{ints}
use Rattle.std.proofs.ByRecursion.{All-weaker}
use Rattle.std.proofs.lemmas.Bool.{cases_Bool, cases_eq, eq-eqb, ne_eqb, both_ways}
use Rattle.scheme.specs.declared.rows.Reach.{Reach}
use Rattle.scheme.specs.Scheme.{Scheme, over, with_flows, flows_over}
use Rattle.scheme.specs.Flow.{Points, Side, Lawful, Greatest, inflow, outflow, value, capacity, leaves}
use Rattle.scheme.specs.Questions.{WellFormed}
use Rattle.scheme.specs.Crossings.{enters, flow_out, flow_in, left_out}
use Rattle.scheme.specs.SideLaws.{ValueCrossesEachSide, NoValueExceedsASide, NoFlowGainsMoreThanIsLeft, FlowAndSideThatMeetAreBest}
use Rattle.scheme.proofs.SumLaws.{all_of, sum_by_mono, sum_by_balance, sum_by_when, sum_by_same, sum_below, below_balance, below_one, below_same, exchange}
use Rattle.scheme.proofs.Signs.{same_differences, difference_at_most, value_is}
use Rattle.scheme.proofs.Relaid.{alike_self, alike_relaid, relaid_alike, formed_alike, side_alike, capacity_alike, flow_list}

-- what a set of points passes through one end of each reach, summed by points and by reaches
by_ends :
    (x : Points) (end : Reach → ℕ) (n : ℕ) (rs : List Reach) → AllByRecursion (λ r. end r < n) rs
    → sum_below n (λ v. cond (x v) (sum_by (λ r. cond (eqb (end r) v) r.flow 0) rs) 0) ≡ sum_by (λ r. cond (x (end r)) r.flow 0) rs
by_ends x end n rs inside =
    below_same _ (λ v. sum_by (λ r. cond (x v) (at v r) 0) rs) n (λ v l. sum_by_when (x v) (at v) rs)
    ∙ exchange (λ v r. cond (x v) (at v r) 0) n rs
    ∙ sum_by_same (λ r. sum_below n (λ v. cond (x v) (at v r) 0)) (λ r. cond (x (end r)) r.flow 0) rs
    (All-weaker _ _ one rs inside)
  where
    at : ℕ → Reach → ℕ
    at v r = cond (eqb (end r) v) r.flow 0

    turned : (a b : Bool) (f : ℕ) → cond a (cond b f 0) 0 ≡ cond b (cond a f 0) 0
    turned true b f = refl
    turned false true f = refl
    turned false false f = refl

    one : (r : Reach) → end r < n → sum_below n (λ v. cond (x v) (at v r) 0) ≡ cond (x (end r)) r.flow 0
    one r l =
        below_same _ (λ v. cond (eqb (end r) v) (cond (x v) r.flow 0) 0) n (λ v _. turned (x v) (eqb (end r) v) r.flow)
        ∙ below_one (end r) (λ v. cond (x v) r.flow 0) n l

-- a reach with one end in the set leaves it or enters it
border : (t h : Bool) (f : ℕ) → cond t f 0 + cond (h && not t) f 0 ≡ cond h f 0 + cond (t && not h) f 0
border true true f = refl
border true false f = omega arith
border false true f = omega arith
border false false f = refl

borders :
    (x : Points) (rs : List Reach)
    → sum_by (λ r. cond (x r.tail) r.flow 0) rs + sum_by (λ r. cond (enters x r) r.flow 0) rs
    ≡ sum_by (λ r. cond (x r.head) r.flow 0) rs + sum_by (λ r. cond (leaves x r) r.flow 0) rs
borders x rs = sum_by_balance _ _ _ _ rs (all_of _ (λ r. border (x r.tail) (x r.head) r.flow) rs)

module _ (s : Scheme) (x : Points) (formed : WellFormed s) (lawful : Lawful s) (side : Side s x) where
  -- of the points of a side only the inlet is out of balance
  steady_point :
      (v : ℕ) → v < s.points
      → cond (x v) (outflow s v) 0 + cond (eqb s.inlet v) (inflow s v) 0 ≡ cond (x v) (inflow s v) 0 + cond (eqb s.inlet v) (outflow s v) 0
  steady_point v l =
      ⊎_elim
      (λ (e : s.inlet ≡ v). rw (eq-eqb s.inlet v e, ← e, side.holds) (omega arith))
      (λ (ne : s.inlet ≡ v → ⊥).
      ⊎_elim
      (λ (yes : x v ≡ true).
      let inner : inflow s v ≡ outflow s v = lawful.balanced v l (λ e. ne (sym e)) (λ e. both_ways (x v) (ap x e ∙ side.lacks) yes) in
      rw (ne_eqb s.inlet v ne, yes) (omega arith))
      (λ (no : x v ≡ false). rw (ne_eqb s.inlet v ne, no) refl) (cases_Bool (x v)))
      (cases_eq s.inlet v)

  pub crossing : outflow s s.inlet + flow_in s x ≡ inflow s s.inlet + flow_out s x
  crossing =
      let points = below_balance _ _ _ _ s.points steady_point in
      let reaches = borders x s.reaches in
      let tails = by_ends x (λ r. r.tail) s.points s.reaches (All-weaker _ _ (λ r j. j.tail_point) s.reaches formed.joined) in
      let heads = by_ends x (λ r. r.head) s.points s.reaches (All-weaker _ _ (λ r j. j.head_point) s.reaches formed.joined) in
      let out = below_one s.inlet (outflow s) s.points formed.inlet_point in
      let inn = below_one s.inlet (inflow s) s.points formed.inlet_point in
      omega arith

-- a reach that leaves a side carries its limit at most
full_border : (l : Bool) (f c : ℕ) → f ≤ c → cond l f 0 ≤ cond l c 0
full_border true f c h = h
full_border false f c h = omega arith

pub out_within : (s : Scheme) (x : Points) → Lawful s → flow_out s x ≤ capacity s x
out_within s x lawful =
    sum_by_mono _ _ s.reaches (All-weaker _ _ (λ r h. full_border (leaves x r) r.flow r.limit h) s.reaches lawful.within)

pub value_crosses : ValueCrossesEachSide
value_crosses s x formed lawful side = same_differences _ _ _ _ (crossing s x formed lawful side)

pub value_within : NoValueExceedsASide
value_within s x formed lawful side =
    let cross = crossing s x formed lawful side in
    let out = out_within s x lawful in
    difference_at_most (outflow s s.inlet) (inflow s s.inlet) (capacity s x) (omega arith)

-- ---- what is left out of a side

-- one reach: what leaves the set and what is left make up the limit
made_up : (l e : Bool) (f c : ℕ) → f ≤ c → (cond l (c - f) 0 + cond e f 0) + cond l f 0 ≡ cond l c 0 + cond e f 0
made_up true e f c h = omega arith
made_up false e f c h = omega arith

left_and_out : (s : Scheme) (x : Points) → Lawful s → left_out s x + flow_out s x ≡ capacity s x + flow_in s x
left_and_out s x lawful =
    sum_by_balance _ _ _ _ s.reaches
    (All-weaker _ _ (λ r h. made_up (leaves x r) (enters x r) r.flow r.limit h) s.reaches lawful.within)

-- the value and what is left out of a side together are its capacity
pub left_completes :
    (s : Scheme) (x : Points) → WellFormed s → Lawful s → Side s x
    → outflow s s.inlet + left_out s x ≡ inflow s s.inlet + capacity s x
left_completes s x formed lawful side =
    let cross = crossing s x formed lawful side in let left = left_and_out s x lawful in omega arith

pub relaid_gain : NoFlowGainsMoreThanIsLeft
relaid_gain s x fs formed lawful side covers lawful' =
    let ts = flows_over s.reaches fs in
    let alike = alike_relaid s.reaches fs in
    let within = value_within (over s ts) x (formed_alike s ts alike formed) lawful' (side_alike s ts alike x side) in
    let same = capacity_alike s ts alike x in
    let full = left_completes s x formed lawful side in
    omega (arith, ints, value_is s)

-- ---- a flow and a side that meet

pub present_flow : (s : Scheme) → with_flows s (flow_list s.reaches) ≡ s
present_flow s = rw (relaid_alike s.reaches s.reaches (alike_self s.reaches))

-- a lawful flow that none exceeds is greatest
pub present_greatest :
    (s : Scheme) → Lawful s
    → ((fs : List ℕ) → length fs ≡ length s.reaches → Lawful (with_flows s fs) → value (with_flows s fs) ≤ℤ value s)
    → Greatest s (value s)
present_greatest s lawful most =
    record {
      flows = flow_list s.reaches;
      covers = length-map s.reaches (λ r. r.flow);
      lawful = rw (present_flow s) lawful;
      reached = ap value (present_flow s);
      most = most;
    }

pub meet_best : FlowAndSideThatMeetAreBest
meet_best s x formed lawful side meet =
    record {
      greatest = present_greatest s lawful (λ fs covers lawful'.
          let ts = flows_over s.reaches fs in
          let alike = alike_relaid s.reaches fs in
          let within = value_within (over s ts) x (formed_alike s ts alike formed) lawful' (side_alike s ts alike x side) in
          rw (meet, ← capacity_alike s ts alike x) within);
      least = λ y other. let below = value_within s y formed lawful other in omega (arith, ints, meet, below);
    }
