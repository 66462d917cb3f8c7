-- What stands between two calls: a well-formed register with a lawful flow under the limits in force.
use Rattle.std.proofs.Common.{◌≡◌, ℕ, zero, suc, ◌<◌, ◌≤◌, Bool, true, false, cond, eqb, List, [], ◌∷◌, map, length, get_or, set, sum_by, sym, refl, ap, ◌∙◌, arith}
use Rattle.std.proofs.lemmas.List.Elements.{length_all_zip}
use Rattle.std.proofs.ByRecursion.{All-get_or, All-map, All-set, All-weaker}
use Rattle.std.proofs.lemmas.List.{get_or_default, length-map, length-set}
use Rattle.std.proofs.lemmas.List.Sums.{sum_by-set}
use Rattle.scheme.specs.declared.rows.Reach.{Reach}
use Rattle.scheme.specs.Bounds.{greatest_limit}
use Rattle.scheme.specs.Scheme.{Scheme, no_reach, limited, flowing, over, with_limit, flows_over, with_flows, emptied}
use Rattle.scheme.specs.Flow.{Lawful}
use Rattle.scheme.specs.Questions.{Joined, WellFormed}
use Rattle.flows.specs.PushLaws.{SameLimits}
use Rattle.scheme.proofs.Relaid.{Alike, alike_relaid}
use Rattle.scheme.proofs.SumLaws.{all_of, sum_by_none, sum_by_same}
use Rattle.scheme.proofs.Writes.{changed_at}
use Rattle.flows.proofs.Chains.{one_gap}
use Rattle.flows.proofs.Limits.{limits_then, limits_formed}
use Rattle.solver.specs.Laws.{LawfulWith}

pub record Stands (limits s : Scheme) : Type 0 where
  pub formed : WellFormed s
  pub lawful : Lawful s
  pub under : SameLimits limits s

pub stands_law : {limits s : Scheme} → Stands limits s → LawfulWith limits s
stands_law {s = s} h = record { under = h.under; lawful = h.lawful; one_gap = one_gap s h.formed h.lawful }

-- another lawful flow under the same limits
pub stands_then : {limits s t : Scheme} → Stands limits s → SameLimits s t → Lawful t → Stands limits t
stands_then {limits} {s} {t} h same lawful =
    record {
      formed = limits_formed s t same h.formed;
      lawful = lawful;
      under = limits_then limits s h.under t same;
    }

-- ---- no flow

relaid_empty : (rs : List Reach) → map (flowing 0) rs ≡ flows_over rs (map (λ r. 0) rs)
relaid_empty [] = refl
relaid_empty (r ∷ rs) = ap (λ ts. flowing 0 r ∷ ts) (relaid_empty rs)

pub emptied_limits : (s : Scheme) → SameLimits s (emptied s)
emptied_limits s =
    record {
      flows = map (λ r. 0) s.reaches;
      covers = length-map s.reaches (λ r. 0);
      relaid = ap (over s) (relaid_empty s.reaches);
    }

-- no point gets or passes on anything then
nothing_at :
    (end : Reach → ℕ) (v : ℕ) (rs : List Reach)
    → sum_by (λ r. cond (eqb (end r) v) r.flow 0) (map (flowing 0) rs) ≡ 0
nothing_at end v rs =
    sum_by_same at (λ r. 0) (map (flowing 0) rs)
    (All-map (λ r. at r ≡ 0) (flowing 0) rs (all_of _ (λ r. either (eqb (end (flowing 0 r)) v)) rs))
    ∙ sum_by_none (map (flowing 0) rs)
  where
    at : Reach → ℕ
    at r = cond (eqb (end r) v) r.flow 0

    either : (b : Bool) → ◌≡◌ {A = ℕ} (cond b 0 0) 0
    either true = refl
    either false = refl

pub emptied_lawful : (s : Scheme) → Lawful (emptied s)
emptied_lawful s =
    record {
      within = All-map (λ r. r.flow ≤ r.limit) (flowing 0) s.reaches (all_of _ (λ r. omega arith) s.reaches);
      balanced = λ v _ _ _. nothing_at (λ r. r.head) v s.reaches ∙ sym (nothing_at (λ r. r.tail) v s.reaches);
    }

-- ---- another limit for one reach, at least its flow

abbrev relimited : List Reach → ℕ → ℕ → List Reach
relimited rs k x = set rs k (limited x (get_or rs k no_reach))

module _ (s : Scheme) (k x : ℕ) (within : k < length s.reaches) where
  abbrev old : Reach
  old = get_or s.reaches k no_reach

  limit_is : with_limit s k x ≡ over s (relimited s.reaches k x)
  limit_is =
      let read = get_or_default s.reaches k no_reach old within in
      ap (over s) (changed_at (limited x) s.reaches k old within read)

  limit_formed : x ≤ greatest_limit → WellFormed s → WellFormed (with_limit s k x)
  limit_formed small w =
      let was = All-get_or (Joined s) s.reaches k no_reach within w.joined in
      let new : Joined s (limited x old) =
      record { tail_point = was.tail_point; head_point = was.head_point; apart = was.apart; bounded = small } in
      let after = over s (relimited s.reaches k x) in
      rw limit_is
      (record {
        some_points = w.some_points;
        few_points = w.few_points;
        few_reaches = rw (length-set s.reaches k (limited x old)) w.few_reaches;
        inlet_point = w.inlet_point;
        outlet_point = w.outlet_point;
        apart = w.apart;
        joined = All-weaker (Joined s) (Joined after) (λ r j. record {
          tail_point = j.tail_point;
          head_point = j.head_point;
          apart = j.apart;
          bounded = j.bounded;
        }) after.reaches (All-set (Joined s) s.reaches k (limited x old) new w.joined);
      })

  -- what looks at ends and flows only is summed as before
  same_sums : (f : Reach → ℕ) → f (limited x old) ≡ f old → sum_by f (relimited s.reaches k x) ≡ sum_by f s.reaches
  same_sums f same = omega (arith, sum_by-set f s.reaches k (limited x old) no_reach within)

  limit_lawful : (get_or s.reaches k no_reach).flow ≤ x → Lawful s → Lawful (with_limit s k x)
  limit_lawful room l =
      rw limit_is
      (record {
        within = All-set (λ r. r.flow ≤ r.limit) s.reaches k (limited x old) room l.within;
        balanced = λ v p i o.
            same_sums (λ r. cond (eqb r.head v) r.flow 0) refl
            ∙ l.balanced v p i o
            ∙ sym (same_sums (λ r. cond (eqb r.tail v) r.flow 0) refl);
      })

-- it is the same before and after flows are laid over the reaches
relimited_relaid :
    (x : ℕ) (rs : List Reach) (fs : List ℕ) (k : ℕ) → relimited (flows_over rs fs) k x ≡ flows_over (relimited rs k x) fs
relimited_relaid x [] fs k = refl
relimited_relaid x (r ∷ rs) [] zero = refl
relimited_relaid x (r ∷ rs) [] (suc k) = refl
relimited_relaid x (r ∷ rs) (f ∷ fs) zero = refl
relimited_relaid x (r ∷ rs) (f ∷ fs) (suc k) = ap (λ ts. flowing f r ∷ ts) (relimited_relaid x rs fs k)

limit_under :
    (limits s : Scheme) (k x : ℕ) → k < length s.reaches → SameLimits limits s
    → SameLimits (with_limit limits k x) (with_limit s k x)
limit_under limits s k x within same =
    let rs = limits.reaches in
    let fs = same.flows in
    let here : length rs ≡ length (flows_over rs fs) = length_all_zip Alike rs (flows_over rs fs) (alike_relaid rs fs) in
    let there : length s.reaches ≡ length (flows_over rs fs) = ap (λ u. length u.reaches) same.relaid in
    let is = limit_is limits k x (omega arith) in
    record {
      flows = fs;
      covers =
          same.covers
          ∙ sym (length-set rs k (limited x (get_or rs k no_reach)))
          ∙ ap (λ u. length u.reaches) (sym is);
      relaid =
          ap (λ u. with_limit u k x) same.relaid
          ∙ limit_is (with_flows limits fs) k x (omega arith)
          ∙ ap (over limits) (relimited_relaid x rs fs k)
          ∙ ap (λ u. with_flows u fs) (sym is);
    }

pub stands_limited :
    (limits s : Scheme) (k x : ℕ) → k < length s.reaches → x ≤ greatest_limit → (get_or s.reaches k no_reach).flow ≤ x
    → Stands limits s → Stands (with_limit limits k x) (with_limit s k x)
stands_limited limits s k x within small room h =
    record {
      formed = limit_formed s k x within small h.formed;
      lawful = limit_lawful s k x within room h.lawful;
      under = limit_under limits s k x within h.under;
    }
