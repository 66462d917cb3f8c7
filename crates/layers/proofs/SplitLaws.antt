-- The laws of the junction, for any flow laid over it.
use Rattle.std.proofs.Common.{◌≡◌, ℕ, ◌+◌, ◌<◌, ◌≤◌, true, leb, List, ◌++◌, length, get_or, take, drop, ◌≤ℤ◌, sym, ap, ◌∙◌, subst, arith}
use Rattle.std.proofs.lemmas.List.FromFn.{length-map-range_with_len, get_or-map-range_with_len}
use Rattle.std.proofs.ByRecursion.{All-weaker, All-append, All-map}
use Rattle.std.proofs.lemmas.List.{length-append, length-drop, length-take-le, take-append-drop}
use Rattle.std.proofs.lemmas.Bool.{and_from, le-leb}
use Rattle.scheme.specs.Scheme.{Scheme, with_flows}
use Rattle.scheme.specs.Flow.{Lawful, value}
use Rattle.scheme.specs.Questions.{WellFormed, Joined}
use Rattle.layers.specs.declared.gates.Gate.{Gate}
use Rattle.layers.specs.Junctions.{junction, carriable, split, between, through, shut, carried_reaches, gate_reaches}
use Rattle.layers.specs.JunctionLaws.{passes, passing, WithinGates, LawfulUnder, Carried, LawfulBelow, ExtendsAbove, LawfulNow, GreatestAsUnder, WellFormedAbove}
use Rattle.layers.proofs.Sites.{junction_on, length_on, length_gated}
use Rattle.layers.proofs.LaidFlows.{formed_flows, gates_with, gates_with_at, flows_split}
use Rattle.layers.proofs.Splits.{arrival_is, departure_is}
use Rattle.layers.proofs.SplitFlows.{all_counted, gate_carries, lawful_down, within_down, lawful_up, value_up}

-- the laws

carried_on : (s : Scheme) → Carried s → carriable s ≡ true
carried_on s carried =
    and_from (leb s.points 256) (leb (length s.reaches) 8192)
    (le-leb s.points 256 carried.few) (le-leb (length s.reaches) 8192 carried.formed.few_reaches)

pub lawful_now : LawfulNow
lawful_now s gates carried lawful =
    let formed = carried.formed in
    let is = junction_on s gates (carried_on s carried) in
    let above = subst Lawful is lawful in (
      lawful_down s gates formed above,
      within_down s gates formed above,
      sym (ap value is ∙ value_up s gates formed (gate_carries s gates formed above)),
    )

module _ (s : Scheme) (gates : List Gate) (carried : Carried s) (fs gs : List ℕ) (long-fs : length fs ≡ length s.reaches) (long-gs : length gs ≡ s.points) where
  abbrev below : Scheme
  below = with_flows s fs

  abbrev gates_now : List Gate
  gates_now = gates_with s.points gates gs

  formed_below : WellFormed (with_flows s fs)
  formed_below = formed_flows s fs carried.formed

  laid : with_flows (junction s gates) (fs ++ gs) ≡ split (with_flows s fs) (gates_with s.points gates gs)
  laid = ap (λ t. with_flows t (fs ++ gs)) (junction_on s gates (carried_on s carried)) ∙ flows_split s gates fs gs long-fs long-gs

  pub below_lawful : Lawful (with_flows (junction s gates) (fs ++ gs)) → LawfulUnder s gates fs × (value (with_flows s fs) ≡ value (with_flows (junction s gates) (fs ++ gs)))
  below_lawful lawful =
      let above = subst Lawful laid lawful in (
        record {
          lawful = lawful_down below gates_now formed_below above;
          within_gates =
              λ v point.
              let kept = within_down below gates_now formed_below above v point in
              let same = ap (λ g. g.limit) (gates_with_at s.points gates gs v point) in
              subst (λ l. passes (with_flows s fs) v ≤ l) same kept;
        },
        sym (ap value laid ∙ value_up below gates_now formed_below (gate_carries below gates_now formed_below above)),
      )

pub lawful_below : LawfulBelow
lawful_below s gates carried fs long lawful =
    let m = length s.reaches in
    let all : length fs ≡ m + s.points = long ∙ length_on s gates (carried_on s carried) in
    let parts = take-append-drop m fs in
    let long-low : length (take m fs) ≡ m = length-take-le m fs (omega arith) in
    let long-own : length (drop m fs) ≡ s.points = length-drop m fs ∙ omega arith in
    let got = below_lawful s gates carried (take m fs) (drop m fs) long-low long-own
    (subst (λ xs. Lawful (with_flows (junction s gates) xs)) (sym parts) lawful) in
    (got.0, got.1 ∙ ap (λ xs. value (with_flows (junction s gates) xs)) parts)

pub extends_above : ExtendsAbove
extends_above s gates carried fs long under =
    let below = with_flows s fs in
    let gs = passing (with_flows s fs) in
    let long-gs : length (passing (with_flows s fs)) ≡ s.points = length-map-range_with_len (passes below) 0 s.points in
    let formed = formed_flows s fs carried.formed in
    let is = laid s gates carried fs gs long long-gs in
    let now-gates = gates_with s.points gates gs in
    let carries : (v : ℕ) → v < s.points → (get_or (gates_with s.points gates (passing (with_flows s fs))) v shut).flow ≡ passes (with_flows s fs) v
    = λ v point.
    ap (λ g. g.flow) (gates_with_at s.points gates gs v point)
    ∙ get_or-map-range_with_len (passes below) 0 s.points v v 0 point (omega arith) in
    let kept : WithinGates (with_flows s fs) (gates_with s.points gates (passing (with_flows s fs)))
    = λ v point.
    subst (λ l. passes (with_flows s fs) v ≤ l) (sym (ap (λ g. g.limit) (gates_with_at s.points gates gs v point)))
    (under.within_gates v point) in (
      subst Lawful (sym is) (lawful_up below now-gates formed carries under.lawful kept),
      ap value is ∙ value_up below now-gates formed carries,
    )

pub greatest_as_under : GreatestAsUnder
greatest_as_under s gates z carried =
    let m = length s.reaches in
    let on = carried_on s carried in
    let covering : (fs : List ℕ) → length fs ≡ length s.reaches → length (fs ++ passing (with_flows s fs)) ≡ length (junction s gates).reaches
    = λ fs long.
    length-append fs (passing (with_flows s fs))
    ∙ omega (arith, length-map-range_with_len (passes (with_flows s fs)) 0 s.points, length_on s gates on) in
    let cut : (fs : List ℕ) → length fs ≡ length (junction s gates).reaches → length (take (length s.reaches) fs) ≡ length s.reaches
    = λ fs long. length-take-le m fs (omega (arith, length_on s gates on)) in (
      (λ greatest.
          let down = lawful_below s gates carried greatest.flows greatest.covers greatest.lawful in
          record {
            flows = take m greatest.flows;
            covers = cut greatest.flows greatest.covers;
            under = down.0;
            reached = down.1 ∙ greatest.reached;
            most =
                λ fs long under.
                let up = extends_above s gates carried fs long under in
                subst (λ x. x ≤ℤ z) up.1 (greatest.most (fs ++ passing (with_flows s fs)) (covering fs long) up.0);
          }),
      (λ greatest.
          let up = extends_above s gates carried greatest.flows greatest.covers greatest.under in
          record {
            flows = greatest.flows ++ passing (with_flows s greatest.flows);
            covers = covering greatest.flows greatest.covers;
            lawful = up.0;
            reached = up.1 ∙ greatest.reached;
            most =
                λ fs long lawful.
                let down = lawful_below s gates carried fs long lawful in
                subst (λ x. x ≤ℤ z) down.1 (greatest.most (take m fs) (cut fs long) down.0);
          }),
    )

-- form

pub well_formed_above : WellFormedAbove
well_formed_above s gates carried room bounded =
    let n = s.points in
    let formed = carried.formed in
    let some = formed.some_points in
    let few = carried.few in
    subst WellFormed (sym (junction_on s gates (carried_on s carried)))
    (record {
      some_points = omega arith;
      few_points = omega arith;
      few_reaches = omega (arith, length_gated s gates);
      inlet_point = let is = arrival_is n s.inlet formed.inlet_point in omega (arith, formed.inlet_point);
      outlet_point = let is = departure_is n s.outlet formed.outlet_point in omega (arith, formed.outlet_point);
      apart =
          λ e.
          let in_is = arrival_is n s.inlet formed.inlet_point in
          let out-is = departure_is n s.outlet formed.outlet_point in
          let far : s.inlet ≡ s.outlet + s.points = sym in_is ∙ e ∙ out-is in
          omega (arith, formed.inlet_point);
      joined =
          All-append (Joined (split s gates)) (carried_reaches s) (gate_reaches n gates)
          (All-map (Joined (split s gates)) (between n) s.reaches
          (All-weaker (Joined s) (λ r. Joined (split s gates) (between n r))
          (λ r j.
          let tail-is = departure_is n r.tail j.tail_point in
          let head-is = arrival_is n r.head j.head_point in
          let tail-low = j.tail_point in
          let head-low = j.head_point in
          record {
            tail_point = omega (arith, tail-is);
            head_point = omega (arith, head-is);
            apart = λ e. let far : r.tail + s.points ≡ r.head = sym tail-is ∙ e ∙ head-is in omega arith;
            bounded = j.bounded;
          })
          s.reaches formed.joined))
          (all_counted (Joined (split s gates)) (through n gates) n
          (λ v point.
          record {
            tail_point = omega arith;
            head_point = omega arith;
            apart = λ e. let far : v ≡ v + s.points = e in omega arith;
            bounded = bounded v point;
          }));
    })
