-- What a push does.
use Rattle.std.specs.Prelude.{◌≡◌, ℕ, ◌<◌, ◌≤◌, ◌≢◌, List, ◌∷◌, length, take, pos, ◌+ℤ◌}
use Rattle.scheme.specs.declared.rows.Reach.{Reach}
use Rattle.scheme.specs.Scheme.{Scheme, with_flows}
use Rattle.scheme.specs.Flow.{Lawful, value, among}
use Rattle.scheme.specs.Questions.{WellFormed}
use Rattle.flows.specs.Ordering.{Made}
use Rattle.flows.specs.Push.{Needs, Stage, pushed_all, push, needs_after}

-- t has the points, ends and limits of s, with a flow for each reach
pub record SameLimits (s t : Scheme) : Type 0 where
  pub flows : List ℕ
  pub covers : length flows ≡ length s.reaches
  pub relaid : t ≡ with_flows s flows

-- The new flows are lawful under the same limits, and their value is higher by just the gain. No point needs
-- anything any more but the inlet, which has to supply the gain.
pub record Pushed (s : Scheme) (order : List ℕ) (gain : ℕ) : Type 0 where
  pub limits : SameLimits s (push s order gain)
  pub lawful : Lawful (push s order gain)
  pub raised : value (push s order gain) ≡ value s +ℤ pos gain
  pub supplied : needs_after s order gain s.inlet ≡ gain
  pub satisfied : (v : ℕ) → v ≢ s.inlet → needs_after s order gain v ≡ 0

abbrev pub PushRaisesTheValueByTheGain : Type 0
PushRaisesTheValueByTheGain =
    (s : Scheme) (order keys : List ℕ) (gain : ℕ) → WellFormed s → Lawful s → Made s order keys gain → 0 < gain
    → Pushed s order gain

-- On the way no need passes the gain: not after any number of reaches at any point of the order.
abbrev pub NeedsStayWithinTheGain : Type 0
NeedsStayWithinTheGain =
    (s : Scheme) (order keys : List ℕ) (gain : ℕ) → WellFormed s → Lawful s → Made s order keys gain → 0 < gain
    → (v w : ℕ) (ws : List ℕ) (rs : List Reach) (needs : Needs) → Stage s order gain (v ∷ (w ∷ ws)) rs needs
    → (count u : ℕ) → u < s.points → (pushed_all (among (w ∷ ws)) v (take count rs) needs).1 u ≤ gain
