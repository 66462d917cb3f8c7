use Rattle.std.proofs.Common.{◌≡◌, ◌-◌, None}
use Rattle.std.specs.List.{slice_get}
use Rattle.std.specs.Option.{option_map}
use Rattle.scheme.specs.Questions.{first_point, steady}
use Rattle.scheme.specs.Sums.{gain}
use Rattle.scheme.proofs.Amounts.{Summed}
use Rattle.scheme.proofs.questions.first_unbalanced.Given as goal

abbrev pub invariant-points : goal.invariant-points
invariant-points g l =
    let s = g.R.Register.scheme l.register in
    (l.found ≡ None) × (first_point (steady s) l.point (l.points - l.point) ≡ first_point (steady s) 0 l.points)

abbrev pub invariant-loop-reach : goal.invariant-loop-reach
invariant-loop-reach g l =
    Summed (λ k x. x ≡ option_map (gain l.point) (slice_get (g.R.Register.scheme l.register).reaches k)) l.reach l.gain
