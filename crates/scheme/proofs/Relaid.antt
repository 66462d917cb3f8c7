-- Other flows laid over the same reaches.
use Rattle.std.proofs.Common.{◌≡◌, ℕ, cond, List, [], ◌∷◌, map, length, sym, refl, ◌∙◌, ap₂, arith}
use Rattle.std.specs.List.{AllZip}
use Rattle.std.proofs.lemmas.List.Elements.{length_all_zip}
use Rattle.scheme.specs.declared.rows.Reach.{Reach}
use Rattle.scheme.specs.Scheme.{Scheme, flowing, flows_over, over}
use Rattle.scheme.specs.Flow.{Points, Side, capacity, leaves}
use Rattle.scheme.specs.Questions.{WellFormed, Joined}
use Rattle.scheme.proofs.SumLaws.{each_all, each_same}

-- two reaches that differ in their flows at most
pub record Alike (r t : Reach) : Type 0 where
  pub tail : t.tail ≡ r.tail
  pub head : t.head ≡ r.head
  pub limit : t.limit ≡ r.limit

pub alike_same : (r : Reach) → Alike r r
alike_same r = record { tail = refl; head = refl; limit = refl }

pub alike_flowing : (f : ℕ) (r : Reach) → Alike r (flowing f r)
alike_flowing f r = record { tail = refl; head = refl; limit = refl }

pub alike_then : (r t u : Reach) → Alike r t → Alike t u → Alike r u
alike_then r t u a b = record { tail = b.tail ∙ a.tail; head = b.head ∙ a.head; limit = b.limit ∙ a.limit }

pub alike_self : (rs : List Reach) → AllZip Alike rs rs
alike_self [] = tt
alike_self (r ∷ rs) = (alike_same r, alike_self rs)

pub alike_relaid : (rs : List Reach) (fs : List ℕ) → AllZip Alike rs (flows_over rs fs)
alike_relaid [] fs = tt
alike_relaid (r ∷ rs) [] = alike_self (r ∷ rs)
alike_relaid (r ∷ rs) (f ∷ fs) = (alike_flowing f r, alike_relaid rs fs)

abbrev pub flow_list : List Reach → List ℕ
flow_list rs = map (λ r. r.flow) rs

same_reach : (r t : Reach) → Alike r t → flowing t.flow r ≡ t
same_reach r t a = rw (← a.tail, ← a.head, ← a.limit)

pub relaid_alike : (rs ts : List Reach) → AllZip Alike rs ts → flows_over rs (flow_list ts) ≡ ts
relaid_alike [] [] e = refl
relaid_alike [] (t ∷ ts) e = absurd e
relaid_alike (r ∷ rs) [] e = absurd e
relaid_alike (r ∷ rs) (t ∷ ts) e = ap₂ (λ y ys. y ∷ ys) (same_reach r t e.0) (relaid_alike rs ts e.1)

-- which of two such lists is laid over does not matter
pub relaid_over_alike :
    (rs ts : List Reach) (fs : List ℕ) → AllZip Alike rs ts → length fs ≡ length rs → flows_over ts fs ≡ flows_over rs fs
relaid_over_alike [] [] fs e l = refl
relaid_over_alike [] (t ∷ ts) fs e l = absurd e
relaid_over_alike (r ∷ rs) [] fs e l = absurd e
relaid_over_alike (r ∷ rs) (t ∷ ts) [] e l = absurd (omega arith)
relaid_over_alike (r ∷ rs) (t ∷ ts) (f ∷ fs) e l =
    ap₂ (λ y ys. y ∷ ys) (cc (e.0.tail, e.0.head, e.0.limit)) (relaid_over_alike rs ts fs e.1 (omega arith))

module _ (s : Scheme) (ts : List Reach) (alike : AllZip Alike s.reaches ts) where
  pub formed_alike : WellFormed s → WellFormed (over s ts)
  formed_alike w =
      record {
        some_points = w.some_points;
        few_points = w.few_points;
        few_reaches = rw (← length_all_zip Alike s.reaches ts alike) w.few_reaches;
        inlet_point = w.inlet_point;
        outlet_point = w.outlet_point;
        apart = w.apart;
        joined = each_all Alike (Joined s) (Joined (over s ts)) (λ r t a j. record {
          tail_point = rw a.tail j.tail_point;
          head_point = rw a.head j.head_point;
          apart = rw (a.tail, a.head) j.apart;
          bounded = rw a.limit j.bounded;
        }) s.reaches ts alike w.joined;
      }

  pub side_alike : (x : Points) → Side s x → Side (over s ts) x
  side_alike x side = record { holds = side.holds; lacks = side.lacks }

  pub capacity_alike : (x : Points) → capacity (over s ts) x ≡ capacity s x
  capacity_alike x =
      sym (each_same Alike (λ r. cond (leaves x r) r.limit 0) (λ t. cond (leaves x t) t.limit 0) (λ r t a. rw (a.tail, a.head, a.limit)) s.reaches ts alike)
