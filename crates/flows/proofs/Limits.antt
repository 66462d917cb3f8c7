-- Schemes under the same limits.
use Rattle.std.proofs.Common.{◌≡◌, ℕ, List, length, ℤ, ◌≤ℤ◌, sym, ap, ◌∙◌, subst, arith}
use Rattle.std.proofs.lemmas.List.Elements.{length_all_zip}
use Rattle.std.proofs.lemmas.List.{length-map}
use Rattle.std.proofs.lemmas.Int.{ints}
use Rattle.scheme.specs.Scheme.{Scheme, over, with_flows, flows_over}
use Rattle.scheme.specs.Flow.{Points, Side, Lawful, Greatest, value, capacity}
use Rattle.scheme.specs.Questions.{WellFormed}
use Rattle.flows.specs.PushLaws.{SameLimits}
use Rattle.scheme.proofs.Relaid.{Alike, alike_relaid, relaid_over_alike, formed_alike, side_alike, capacity_alike, flow_list}
use Rattle.scheme.proofs.Cuts.{present_flow}

pub same_limits_self : (s : Scheme) → SameLimits s s
same_limits_self s =
    record { flows = flow_list s.reaches; covers = length-map s.reaches (λ r. r.flow); relaid = sym (present_flow s) }

-- as many flows over s as over t
covers_relaid : (s : Scheme) (fs : List ℕ) → length (with_flows s fs).reaches ≡ length s.reaches
covers_relaid s fs = sym (length_all_zip Alike s.reaches (flows_over s.reaches fs) (alike_relaid s.reaches fs))

relaid_twice :
    (s : Scheme) (fs gs : List ℕ) → length gs ≡ length s.reaches → with_flows (with_flows s fs) gs ≡ with_flows s gs
relaid_twice s fs gs covers =
    ap (over s) (relaid_over_alike s.reaches (flows_over s.reaches fs) gs (alike_relaid s.reaches fs) covers)

module _ (s t : Scheme) (same : SameLimits s t) where
  limits_length : length t.reaches ≡ length s.reaches
  limits_length = ap (λ u. length u.reaches) same.relaid ∙ covers_relaid s same.flows

  limits_relaid : (gs : List ℕ) → length gs ≡ length s.reaches → with_flows t gs ≡ with_flows s gs
  limits_relaid gs covers = ap (λ u. with_flows u gs) same.relaid ∙ relaid_twice s same.flows gs covers

  pub limits_then : (u : Scheme) → SameLimits t u → SameLimits s u
  limits_then u further =
      let covers = further.covers ∙ limits_length in
      record { flows = further.flows; covers = covers; relaid = further.relaid ∙ limits_relaid further.flows covers }

  pub limits_formed : WellFormed s → WellFormed t
  limits_formed formed =
      rw same.relaid (formed_alike s (flows_over s.reaches same.flows) (alike_relaid s.reaches same.flows) formed)

  pub limits_side : (x : Points) → Side s x → Side t x
  limits_side x side =
      rw same.relaid (side_alike s (flows_over s.reaches same.flows) (alike_relaid s.reaches same.flows) x side)

  pub limits_capacity : (x : Points) → capacity t x ≡ capacity s x
  limits_capacity x =
      ap (λ u. capacity u x) same.relaid ∙ capacity_alike s (flows_over s.reaches same.flows) (alike_relaid s.reaches same.flows) x

  -- the greatest value is the same
  pub limits_greatest : (z : ℤ) → Greatest t z → Greatest s z
  limits_greatest z great =
      let covers = great.covers ∙ limits_length in
      let back = limits_relaid great.flows covers in
      record {
        flows = great.flows;
        covers = covers;
        lawful = subst Lawful back great.lawful;
        reached = ap value (sym back) ∙ great.reached;
        most = λ fs c l. let here = limits_relaid fs c in subst (λ u. value u ≤ℤ z) here (great.most fs (c ∙ sym limits_length) (subst Lawful (sym here) l));
      }

pub greatest_once : (s : Scheme) (y z : ℤ) → Greatest s y → Greatest s z → y ≡ z
greatest_once s y z a b =
    let up : y ≤ℤ z = rw (← a.reached) (b.most a.flows a.covers a.lawful) in
    let down : z ≤ℤ y = rw (← b.reached) (a.most b.flows b.covers b.lawful) in
    omega (arith, ints)

-- a lawful flow under the same limits has at most the greatest value
pub greatest_most : (s t : Scheme) (z : ℤ) → SameLimits s t → Lawful t → Greatest s z → value t ≤ℤ z
greatest_most s t z same lawful great =
    subst (λ u. value u ≤ℤ z) (sym same.relaid) (great.most same.flows same.covers (subst Lawful same.relaid lawful))
