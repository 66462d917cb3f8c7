use Rattle.solver.proofs.Begun.{order_begun, made_from_start}
use Rattle.solver.proofs.ordering.make_ordering.Goals as goal

pub take_the_rest-requires-clause-begun : goal.take_the_rest-requires-clause-begun
take_the_rest-requires-clause-begun g c =
    let s = g.R.Register.scheme c.args.register.now in
    let entered = c.enter_point.ensures in
    order_begun s c.args.order.now c.args.place.now _ _ _ _ _ c.requires.ready.formed c.requires.ready.listed
    c.take_inlet-inlet.ensures.inlet c.points.ensures c.clear_places.ensures entered.order entered.place
    _ c.take_inlet-inlet.ensures.after

pub returns-clause-made : goal.returns-clause-made
returns-clause-made g c =
    let s = g.R.Register.scheme c.args.register.now in
    let entered = c.enter_point.ensures in
    made_from_start s c.args.order.now c.args.place.now _ _ _ _ _ c.requires.ready.formed c.requires.ready.listed
    c.take_inlet-inlet.ensures.inlet c.points.ensures c.clear_places.ensures entered.order entered.place
    _ _ _ _ c.take_the_rest.ensures.made
