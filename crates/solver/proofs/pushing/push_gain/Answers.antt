use Rattle.std.proofs.Common.{length, take, sym, ap, ◌∙◌}
use Rattle.std.proofs.lemmas.List.FromFn.{length-map-range_with_len}
use Rattle.solver.specs.Work.{written, position}
use Rattle.solver.proofs.Written.{needs_none}
use Rattle.solver.proofs.pushing.push_gain.Goals as goal

pub returns-then-gain-eq0-clause-need : goal.returns-then-gain-eq0-clause-need
returns-then-gain-eq0-clause-need g c =
    let s = g.B.Register.scheme c.args.book.now in
    c.clear_needs.ensures
    ∙ ap (λ ns. written ns c.args.need.now) (needs_none s c.points.result c.args.told.gain c.points.ensures c.if-gain-eq0.true)

pub slice_bounds-push_order-end : goal.slice_bounds-push_order-end
slice_bounds-push_order-end g c =
    let s = g.B.Register.scheme c.args.book.now in
    let all = c.from-points.ensures ∙ c.points-else-gain-eq0.ensures in
    let long = length-map-range_with_len (position 0 (take c.args.told.length c.args.order.now)) 0 s.points in
    all ∙ sym (ap (λ n. length (take n c.args.place.now)) all ∙ ap length c.requires.placed ∙ long)
