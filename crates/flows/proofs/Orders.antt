-- Orders as they are built, point by point.
use Rattle.std.proofs.Common.{◌≡◌, ℕ, ◌<◌, ◌≤◌, min, true, false, ◌||◌, eqb, ◌≢◌, List, [], ◌∷◌, ◌++◌, sym, refl, ap, ◌∙◌, ⊎_elim, arith}
use mathlib.Core.Path.{fun_ext}
use Rattle.std.proofs.lemmas.Bool.{or_cases, or_left, or_right, or_from, eqb-true, eq-eqb, ne_eqb}
use Rattle.scheme.specs.Scheme.{Scheme}
use Rattle.flows.specs.Ordering.{with_point, least, Taken}
use Rattle.scheme.specs.Flow.{Side, among}
use Rattle.flows.specs.Ordering.Taken.{first, next}

-- the points after one more
pub among_push : (ws : List ℕ) (v u : ℕ) → among (ws ++ v ∷ []) u ≡ (among ws u || eqb v u)
among_push [] v u = elim (eqb v u) as (λ b. (b || false) ≡ b) [ true ↦ refl | false ↦ refl ]
among_push (w ∷ ws) v u =
    ap (λ b. eqb w u || b) (among_push ws v u)
    ∙ elim (eqb w u) as (λ b. (b || (among ws u || eqb v u)) ≡ ((b || among ws u) || eqb v u)) [ true ↦ refl | false ↦ refl ]

pub among_earlier : (ws : List ℕ) (v u : ℕ) → among ws u ≡ true → among (ws ++ v ∷ []) u ≡ true
among_earlier ws v u h = among_push ws v u ∙ or_left (among ws u) (eqb v u) h

pub among_last : (ws : List ℕ) (v : ℕ) → among (ws ++ v ∷ []) v ≡ true
among_last ws v = among_push ws v v ∙ or_right (among ws v) (eqb v v) (eq-eqb v v refl)

pub among_push_cases :
    (P : ℕ → Type 0) (ws : List ℕ) (v u : ℕ) → among (ws ++ v ∷ []) u ≡ true → (among ws u ≡ true → P u) → P v → P u
among_push_cases P ws v u h before here =
    ⊎_elim before (λ e. rw (← eqb-true v u e) here) (or_cases (among ws u) (eqb v u) (sym (among_push ws v u) ∙ h))

pub among_with : (ws : List ℕ) (v : ℕ) → among (ws ++ v ∷ []) ≡ with_point (among ws) v
among_with ws v = fun_ext (among_push ws v)

-- the least key, after one more
pub least_push : (ks : List ℕ) (j k : ℕ) → least (ks ++ j ∷ []) k ≡ least ks (min j k)
least_push [] j k = refl
least_push (i ∷ ks) j k = ap (min i) (least_push ks j k)

pub least_min : (ks : List ℕ) (j k : ℕ) → least ks (min j k) ≡ min (least ks j) k
least_min [] j k = refl
least_min (i ∷ ks) j k = omega (arith, least_min ks j k)

pub least_at_most : (ks : List ℕ) (k : ℕ) → least ks k ≤ k
least_at_most [] k = omega arith
least_at_most (j ∷ ks) k = omega (arith, least_at_most ks k)

module _ (s : Scheme) where
  pub taken_inlet : {ws ks : List ℕ} → Taken s ws ks → among ws s.inlet ≡ true
  taken_inlet first = or_left (eqb s.inlet s.inlet) false (eq-eqb s.inlet s.inlet refl)
  taken_inlet (next {ws = ws} {v = v} taken n above inner) = among_earlier ws v s.inlet (taken_inlet taken)

  pub taken_lacks_outlet : {ws ks : List ℕ} → s.inlet ≢ s.outlet → Taken s ws ks → among ws s.outlet ≡ false
  taken_lacks_outlet apart first = or_from (eqb s.inlet s.outlet) false (ne_eqb s.inlet s.outlet apart) refl
  taken_lacks_outlet apart (next {ws = ws} {v = v} taken n above inner) =
      among_push ws v s.outlet ∙ or_from (among ws s.outlet) (eqb v s.outlet) (taken_lacks_outlet apart taken) inner

  -- so the points that are taken are a side
  pub taken_side : {ws ks : List ℕ} → s.inlet ≢ s.outlet → Taken s ws ks → Side s (among ws)
  taken_side apart taken = record { holds = taken_inlet taken; lacks = taken_lacks_outlet apart taken }

  -- keys taken are above 0, so their least is
  pub least_above : {ws ks : List ℕ} (k : ℕ) → Taken s ws ks → 0 < k → 0 < least ks k
  least_above k first h = h
  least_above k (next {ks = ks} {k = j} taken n above inner) h =
      rw (least_push ks j k) (least_above (min j k) taken (omega arith))
