use Rattle.std.proofs.Common.{◌≡◌, ℕ, zero, suc, ◌+◌, ◌<◌, ◌≤◌, ◌≢◌, List, get_or, sym, refl, ap, ◌∙◌, ⊎_elim, arith, rules}
use Rattle.std.specs.Array.{IsFromFnResultFrom}
use Rattle.std.proofs.lemmas.Bool.{cases_eq}
use Rattle.std.proofs.lemmas.List.FromFn.{fill_by_all}
use denote.Param.Members.{Mut, Called}
use Rattle.layers.specs.Junctions.{fresh_gate, shut}
use Rattle.layers.proofs.gates.fresh_gates.Goals as goal

-- calls that each answer by their number, and keep what they answer from, made a list of those answers
module _ {F B : Type 0} (g : Mut F (ℕ × Unit {0}) B) (Kept : F → Type 0) (h : ℕ → B) (one : (p : F) (i : ℕ) (y : B) (q : F) → Called g p (i, tt) y q → Kept p → Kept q × (y ≡ h i)) where
  made_each : (n : ℕ) (f : F) (ys : List B) (i : ℕ) → Kept f → IsFromFnResultFrom g f ys i n → (k : ℕ) (d : B) → i ≤ k → k < i + n → get_or ys k d ≡ h k
  made_each zero f ys i kept calls k d low high = absurd (omega arith)
  made_each (suc n) f ys i kept (q, y, is, call, rest) k d low high =
      let step = one f i y q call kept in
      ⊎_elim
      (λ (e : k ≡ i). ap (λ j. get_or ys j d) e ∙ is.1 d ∙ step.1 ∙ ap h (sym e))
      (λ (apart : k ≢ i). made_each n q ys (i + 1) step.0 rest k d (omega arith) (omega arith))
      (cases_eq k i)

pub returns : goal.returns
returns g c =
    let limits = c.args.limits.now in
    let made = c.from_fn.ensures.items in
    fill_by_all (fresh_gate limits) c.from_fn.result g.row.N shut made.long
    (λ k below.
    made_each _ (λ p. p.0.now ≡ limits) (fresh_gate limits) (λ p i y q call kept. (search rules, search rules)) g.row.N _ _ 0 refl made.each k shut (omega arith) (omega arith))
