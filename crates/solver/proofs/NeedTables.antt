-- The table of needs, as a push writes it.
use Rattle.std.proofs.Common.{◌≡◌, ℕ, ◌+◌, ◌-◌, ◌<◌, ◌≢◌, List, length, get_or, set, sym, refl, ap, ◌∙◌, ⊎_elim, arith, length-set}
use mathlib.Core.Path.{fun_ext}
use Rattle.std.proofs.lemmas.List.{get_or-set_same, get_or-set_other}
use Rattle.std.proofs.lemmas.Bool.{cases_eq, eq-eqb, ne_eqb}
use Rattle.flows.specs.Push.{Needs, moved}
use Rattle.solver.specs.PushSteps.{needs_of}

module _ (a v u : ℕ) (needs : Needs) (apart : v ≢ u) where
  -- what the two points need after a move
  pub moved_from : moved a v u needs v ≡ needs v - a
  moved_from = rw (ne_eqb u v (λ e. apart (sym e)), eq-eqb v v refl) (omega arith)

  pub moved_to : moved a v u needs u ≡ needs u + a
  moved_to = rw (eq-eqb u u refl, ne_eqb v u apart) (omega arith)

  pub moved_else : (w : ℕ) → w ≢ v → w ≢ u → moved a v u needs w ≡ needs w
  moved_else w not-v not-u = rw (ne_eqb u w (λ e. not-u (sym e)), ne_eqb v w (λ e. not-v (sym e))) (omega arith)

module _ (need : List ℕ) (a v u : ℕ) (inside : v < length need) (there : u < length need) (apart : v ≢ u) where
  less : List ℕ
  less = set need v (get_or need v 0 - a)

  written_twice : (w : ℕ) → get_or (set less u (get_or less u 0 + a)) w 0 ≡ moved a v u (needs_of need) w
  unfolding less
  written_twice w =
      ⊎_elim
      (λ (at-u : w ≡ u).
      rw at-u (
      get_or-set_same less u (get_or less u 0 + a) 0 (omega (arith, length-set need v (get_or need v 0 - a)))
      ∙ ap (λ n. n + a) (get_or-set_other need v u (get_or need v 0 - a) 0 (λ e. apart (sym e)))
      ∙ sym (moved_to a v u (needs_of need) apart)
      ))
      (λ (not-u : w ≢ u).
      get_or-set_other less u w (get_or less u 0 + a) 0 not-u
      ∙ ⊎_elim
      (λ (at-v : w ≡ v). rw at-v (get_or-set_same need v (get_or need v 0 - a) 0 inside ∙ sym (moved_from a v u (needs_of need) apart)))
      (λ (not-v : w ≢ v).
      get_or-set_other need v w (get_or need v 0 - a) 0 not-v ∙ sym (moved_else a v u (needs_of need) apart w not-v not-u))
      (cases_eq w v))
      (cases_eq w u)

-- lowered at one point by an amount, and raised at another by the same
pub moved_table :
    (need : List ℕ) (a v u : ℕ) → v < length need → u < length need → v ≢ u
    → let less = set need v (get_or need v 0 - a) in needs_of (set less u (get_or less u 0 + a)) ≡ moved a v u (needs_of need)
unfolding less
moved_table need a v u inside there apart = fun_ext (written_twice need a v u inside there apart)
