use mir.Val.{bool_byte}
use Rattle.std.proofs.Common.{◌≡◌, ◌<◌, Bool, true, false, cond, not, eqb, get_or, set, refl, ap, ◌∙◌, arith}
use Rattle.std.proofs.lemmas.List.{get_or-take, length-take-le}
use Rattle.scheme.specs.Bounds.{no_point}
use Rattle.solver.proofs.Cuts.{mark_at}
use Rattle.solver.proofs.Written.{filled_more}
use Rattle.solver.proofs.cutting.mark_placed.Goals as goal

marked : (absent : Bool) → bool_byte (not absent) ≡ cond absent 0 1
marked true = refl
marked false = refl

pub loop-point-preserved : goal.loop-point-preserved
loop-point-preserved c =
    let n = c.loop-point.point in
    let place = c.args.place.now in
    let within : n < c.from.result = omega (arith, length-take-le c.from.result place) in
    let mark : c.from-in-loop-point.result ≡ mark_at place n =
    c.from-in-loop-point.ensures
    ∙ ap (λ v. bool_byte (not (eqb v no_point))) (get_or-take c.from.result place n 0 within)
    ∙ marked (eqb (get_or place n 0) no_point) in
    ap (λ ms. set ms n c.from-in-loop-point.result) c.loop-point.invariant
    ∙ filled_more (mark_at place) n _ c.args.marks.now (omega arith) mark
