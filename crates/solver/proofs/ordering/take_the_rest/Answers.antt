use Rattle.std.proofs.Common.{◌<◌, sym, refl, ◌∙◌, arith}
use Rattle.solver.proofs.Underway.{underway_first, last_inside, room_from_last, some_outside, has_place, stops_here, goes_on, arrives_here}
use Rattle.solver.proofs.ordering.take_the_rest.Goals as goal
use Rattle.solver.proofs.ordering.take_the_rest.Goals.{then-key-eq0, else-key-eq0+then-point-outlet}

pub loop-point-init : goal.loop-point-init
loop-point-init g c =
    let s = g.R.Register.scheme c.args.register.now in
    let ks = g.P.Pick.held c.args.pick.now in
    (underway_first s c.args.order.now c.args.place.now ks _ c.inlet-last.ensures c.requires.begun, refl)

pub raise_neighbours-requires-clause-inside : goal.raise_neighbours-requires-clause-inside
raise_neighbours-requires-clause-inside g c = last_inside c.loop-point.invariant.0

pub raise_neighbours-requires-clause-room : goal.raise_neighbours-requires-clause-room
raise_neighbours-requires-clause-room g c = room_from_last c.loop-point.invariant.0 c.requires.ready.formed c.requires.ready.lawful

pub take_greatest-point-requires : goal.take_greatest-point-requires
take_greatest-point-requires g c =
    some_outside c.loop-point.invariant.0 _ c.requires.ready.formed c.raise_neighbours.ensures.grown

pub enter_point-requires-clause-listed : goal.enter_point-requires-clause-listed
enter_point-requires-clause-listed g c =
    let takes = c.take_greatest-point.ensures.taken in
    omega (arith, has_place c.loop-point.invariant.0 _ _ _ _ c.requires.ready.formed c.raise_neighbours.ensures.grown takes)

pub overflow_add-length : goal.overflow_add-length
overflow_add-length g c =
    let takes = c.take_greatest-point.ensures.taken in
    omega (arith, has_place c.loop-point.invariant.0 _ _ _ _ c.requires.ready.formed c.raise_neighbours.ensures.grown takes)

pub loop-point-smaller : goal.loop-point-smaller
loop-point-smaller g c =
    let takes = c.take_greatest-point.ensures.taken in
    omega (arith, has_place c.loop-point.invariant.0 _ _ _ _ c.requires.ready.formed c.raise_neighbours.ensures.grown takes)

pub loop-point-preserved : goal.loop-point-preserved
loop-point-preserved g c =
    let takes = c.take_greatest-point.ensures.taken in
    let entered = c.enter_point.ensures in
    let above : 0 < c.take_greatest-point.result.1 = omega arith in (
      goes_on c.loop-point.invariant.0 _ _ _ _ c.requires.ready.formed c.raise_neighbours.ensures.grown takes _ _ above c.requires.ready.listed
          entered.order entered.place _ c.min-least.ensures
          (λ e. c.if-point-outlet.false (e ∙ sym c.outlet-outlet.ensures)),
      c.take_greatest-point.ensures.size ∙ c.raise_neighbours.ensures.size ∙ c.loop-point.invariant.1,
    )

pub returns-clause-made : goal.returns-clause-made
returns-clause-made g c =
    let way = c.loop-point.invariant.0 in
    let takes = c.take_greatest-point.ensures.taken in
    let grown = c.raise_neighbours.ensures.grown in
    elim c.if-key-eq0.branch [
      | then-key-eq0 w ↦
          rw (w.gain-is, w.order-is, w.place-is)
          (stops_here way _ _ _ _ c.requires.ready.formed grown takes _ (c.from.ensures ∙ w.length-is) w.if-key-eq0.true)
      | else-key-eq0+then-point-outlet w ↦
          let entered = w.enter_point.ensures in
          let above : 0 < c.take_greatest-point.result.1 = omega arith in
          rw (w.gain-is, w.order-is, w.place-is)
          (arrives_here way _ _ _ _ c.requires.ready.formed grown takes _ _ above c.requires.ready.listed entered.order entered.place _ _
          w.min-least.ensures (c.from.ensures ∙ w.length-is) c.requires.ready.lawful (w.if-point-outlet.true ∙ c.outlet-outlet.ensures))
    ]
