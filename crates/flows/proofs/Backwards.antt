-- An order as the push goes through it, latest point first.
use Rattle.std.proofs.Common.{◌≡◌, ℕ, ◌<◌, ◌≤◌, min, true, false, ◌||◌, eqb, List, [], ◌∷◌, ◌++◌, reverse, refl, ap, ◌∙◌, arith}
use mathlib.Core.Path.{fun_ext}
use mathlib.Core.List.{reverse-cons}
use Rattle.std.proofs.Math.Bool.{or_comm}
use Rattle.std.proofs.lemmas.List.{reverse-append}
use Rattle.scheme.specs.Scheme.{Scheme}
use Rattle.flows.specs.Ordering.{left_into, least, Next, Taken, Made}
use Rattle.scheme.specs.Flow.{among}
use Rattle.flows.specs.Ordering.Taken.{first, next}
use Rattle.flows.specs.Ordering.Made.{arrives, stops}
use Rattle.flows.proofs.Keys.{key_at_most_left}
use Rattle.flows.proofs.Orders.{among_push, among_last, least_push, least_at_most}

-- enough is left from the earlier points to each point after the inlet
pub data Ready (s : Scheme) (gain : ℕ) : List ℕ → Type 0 where
  start : Ready s gain (s.inlet ∷ [])
  more :
      {v : ℕ} {ws : List ℕ} → v < s.points → among ws v ≡ false → gain ≤ left_into s (among ws) v → Ready s gain ws
      → Ready s gain (v ∷ ws)

pub among_reverse : (ws : List ℕ) (u : ℕ) → among (reverse ws) u ≡ among ws u
among_reverse [] u = refl
among_reverse (w ∷ ws) u =
    ap (λ vs. among vs u) (reverse-cons w ws) ∙ among_push (reverse ws) w u
    ∙ ap (λ b. b || eqb w u) (among_reverse ws u) ∙ or_comm (among ws u) (eqb w u)

module _ (s : Scheme) (gain : ℕ) where
  ready_next :
      (ws : List ℕ) (v k : ℕ) → Next s (among ws) v k → gain ≤ k → Ready s gain (reverse ws)
      → Ready s gain (reverse (ws ++ v ∷ []))
  ready_next ws v k n enough before =
      let same : among (reverse ws) ≡ among ws = fun_ext (among_reverse ws) in
      let most = key_at_most_left s (among ws) v in
      rw (reverse-append ws (v ∷ [])) (more n.outside.0 (among_reverse ws v ∙ n.outside.1) (rw same (omega (arith, n.is))) before)

  taken_ready : {ws ks : List ℕ} (k : ℕ) → Taken s ws ks → gain ≤ least ks k → Ready s gain (reverse ws)
  taken_ready k first h = start
  taken_ready k (next {ws = ws} {ks = ks} {v = v} {k = j} taken n above inner) h =
      let split = least_push ks j k in
      let most = least_at_most ks (min j k) in
      ready_next ws v j n (omega arith) (taken_ready (min j k) taken (omega arith))

  pub made_ready :
      {order keys : List ℕ} (g : ℕ) → g ≡ gain → 0 < gain → Made s order keys g → Ready s gain (reverse order)
  made_ready g e some (arrives {ws = ws} {ks = ks} {k = k} taken n above) =
      let most = least_at_most ks k in
      ready_next ws s.outlet k n (omega arith) (taken_ready k taken (omega arith))
  made_ready g e some (stops taken n) = absurd (omega arith)

  pub made_outlet :
      {order keys : List ℕ} (g : ℕ) → g ≡ gain → 0 < gain → Made s order keys g
      → among (reverse order) s.outlet ≡ true
  made_outlet g e some (arrives {ws = ws} taken n above) =
      among_reverse (ws ++ s.outlet ∷ []) s.outlet ∙ among_last ws s.outlet
  made_outlet g e some (stops taken n) = absurd (omega arith)
