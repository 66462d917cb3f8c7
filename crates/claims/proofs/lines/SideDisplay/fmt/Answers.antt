use Rattle.std.proofs.Common.{◌≡◌, ℕ, zero, suc, ◌+◌, ◌<◌, List, [], ◌∷◌, ◌++◌, length, get_or, take, sym, ap, ◌∙◌, arith, rules, append_assoc}
use Rattle.std.proofs.lemmas.Grind.{put_two}
use Rattle.std.proofs.lemmas.List.{append-nil}
use Rattle.scheme.specs.Words.{side_from, side_point}
use Rattle.claims.proofs.lines.SideDisplay.fmt.Goals as goal
use Rattle.claims.proofs.lines.SideDisplay.fmt.Goals.{then-mark-eq1+in_ok-write, else-mark-eq1}

side_more : (marks : List ℕ) (v i : ℕ) → i < length marks → side_from v (take (suc i) marks) ≡ side_from v (take i marks) ++ side_point (v + i) (get_or marks i 0)
side_more [] v i within = absurd (omega arith)
side_more (m ∷ ms) v zero within = append-nil (side_point v m) ∙ ap (λ w. side_point w m) (omega arith)
side_more (m ∷ ms) v (suc i) within =
    ap (λ text. side_point v m ++ text) (side_more ms (v + 1) i (omega arith))
    ∙ sym (append_assoc (side_point v m) (side_from (v + 1) (take i ms)) (side_point (v + 1 + i) (get_or ms i 0)))
    ∙ ap (λ w. (side_point v m ++ side_from (v + 1) (take i ms)) ++ side_point w (get_or ms i 0)) (omega arith)

one_more : (marks : List ℕ) (i : ℕ) → i < length marks → side_from 0 (take i marks) ++ side_point i (get_or marks i 0) ≡ side_from 0 (take (i + 1) marks)
one_more marks i within =
    ap (λ w. side_from 0 (take i marks) ++ side_point w (get_or marks i 0)) {x = i} {y = 0 + i} (omega arith)
    ∙ sym (side_more marks 0 i within)
    ∙ ap (λ k. side_from 0 (take k marks)) {x = suc i} {y = i + 1} (omega arith)

pub loop-point-preserved : goal.loop-point-preserved
loop-point-preserved g c = λ plain.
    let marks = c.args.self.now.0.now in
    let i = c.loop-point.point-counter in
    put_two _ _ _ _ (side_from 0 (take i marks)) (side_point i (get_or marks i 0)) _ (c.loop-point.invariant plain)
    (elim c.if-mark-eq1.branch [
      | then-mark-eq1+in_ok-write w ↦ search rules
      | else-mark-eq1 w ↦ search rules
    ])
    (one_more marks i (search rules))
