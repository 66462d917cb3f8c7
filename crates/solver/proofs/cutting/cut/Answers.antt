use Rattle.std.proofs.Common.{◌≡◌, ℕ, ◌≤◌, ◌∷◌, length, sym, refl, ◌∙◌, arith}
use Rattle.std.proofs.lemmas.Result.{err_from_is_err_and}
use Rattle.scheme.specs.declared.faults.CallFault.TheVariants.{Gains}
use Rattle.solver.specs.Calls.{AllYes, CutOrders, CutMade, CutGains, cut_questions, hold_all, lengths_of}
use Rattle.solver.specs.Work.{work_of}
use Rattle.solver.specs.Ready.{Ready}
use Rattle.solver.proofs.Holding.{ready_to_cut}
use Rattle.solver.proofs.Telling.{ordering_refused}
use Rattle.solver.proofs.Cuts.{capacity_is, cut_orders, ordered_none, marks_written, refused_gain}
use Rattle.solver.proofs.OwnLaws.{cut_least, cut_gap}
use Rattle.solver.proofs.cutting.cut.Given as given
use Rattle.solver.proofs.cutting.cut.Goals as goal
use Rattle.solver.proofs.cutting.cut.Goals.{In_ok-ask_ordering, After-clear_needs}

-- ---- where every question was answered yes

module _ (g : given.Over) (c : In_ok-ask_ordering g) where
  asked :
      AllYes
      (cut_questions (g.R.Register.scheme c.args.register.now)
      (work_of c.args.order.now c.args.place.now c.args.need.now) c.args.marks.now
      (g.P.Pick.held c.args.pick.now))
  asked = sym c.in_ok-ask_ordering.ensures.answer

  able :
      (g.R.Register.scheme c.args.register.now).points ≤ length c.args.marks.now
      × Ready (g.R.Register.scheme c.args.register.now) (work_of c.args.order.now c.args.place.now c.args.need.now)
      (g.P.Pick.held c.ask_ordering.new.pick)
  able = ready_to_cut _ _ _ _ _ asked c.ask_ordering.ensures.size

-- the ordering that was made
module _ (g : given.Over) (c : After-clear_needs g) where
  ordered :
      CutOrders (g.R.Register.scheme c.args.register.now)
      (work_of c.args.order.now c.args.place.now c.args.need.now) c.args.marks.now
      (g.P.Pick.held c.args.pick.now) c.make_ordering-told.ensures.made.order
      c.make_ordering-told.result.gain
      (work_of c.make_ordering-told.new.order c.make_ordering-told.new.place c.clear_needs.new.need)
      (g.P.Pick.held c.make_ordering-told.new.pick)
  ordered =
      cut_orders c.make_ordering-told.ensures.made _ c.points-points.ensures c.args.need.now _
      c.args.marks.now (g.P.Pick.held c.args.pick.now) _
      (asked g (goal.at.After-clear_needs g c).In_ok-ask_ordering) c.clear_needs.ensures
      (c.make_ordering-told.ensures.size ∙ c.ask_ordering.ensures.size)

-- ---- the answers

pub returns-in_err-ask_ordering-clause-gap : goal.returns-in_err-ask_ordering-clause-gap
returns-in_err-ask_ordering-clause-gap g c =
    let p = err_from_is_err_and c.from_residual.result c.from_residual.ensures.1 in
    let s = g.R.Register.scheme c.args.register.now in
    let w = work_of c.args.order.now c.args.place.now c.args.need.now in
    let hold = hold_all s.points (length c.args.marks.now ∷ lengths_of w) in
    let fault = c.in_err-ask_ordering.field-0.0 in
    rw (p.1, p.2)
    (λ e. absurd (ordering_refused s hold (g.P.Pick.held c.args.pick.now) fault (sym c.in_err-ask_ordering.ensures.answer) (let same : fault ≡ Gains = cc in same)))

pub make_ordering-told-requires-clause-ready : goal.make_ordering-told-requires-clause-ready
make_ordering-told-requires-clause-ready g c =
    (able g (goal.at.make_ordering-told-requires-clause-ready g c).In_ok-ask_ordering).1.to_order

pub returns-then-told-gt0 : goal.returns-then-told-gt0
returns-then-told-gt0 g c =
    let s = g.R.Register.scheme c.args.register.now in
    let ks = g.P.Pick.held c.args.pick.now in
    let w = work_of c.args.order.now c.args.place.now c.args.need.now in
    let marks = c.args.marks.now in
    let orders = ordered g (goal.at.returns-then-told-gt0 g c).After-clear_needs in
    let gains : CutGains s w ks marks Gains _ _ marks =
    record { order = _; gain = _; ordered = orders; gains = c.if-told-gt0.true; told = refl; marks_stay = refl } in
    record { does = refused_gain s w ks marks Gains _ _ marks orders.asked gains; law = tt; gap = λ e. cut_gap gains }

pub returns : goal.returns
returns g c =
    let s = g.R.Register.scheme c.args.register.now in
    let ks = g.P.Pick.held c.args.pick.now in
    let w = work_of c.args.order.now c.args.place.now c.args.need.now in
    let marks = c.args.marks.now in
    let after = c.mark_placed.new.marks in
    let at = goal.at.returns g c in
    let formed = (able g at.In_ok-ask_ordering).1.to_order.formed in
    let m = c.make_ordering-told.ensures.made in
    let are = marks_written m _ c.points-points.ensures marks after formed c.mark_placed.ensures in
    let does : CutMade s w ks marks c.capacity.result _ _ after =
    record {
      order = m.order;
      ordered = ordered_none (ordered g at.After-clear_needs) c.if-told-gt0.false;
      marks_are = are;
      capacity_is = c.capacity.ensures ∙ capacity_is s m.order marks after formed are;
    } in
    record { does = does; law = cut_least does; gap = λ e. absurd (let no : ◌≡◌ {A = ℕ} 0 1 = cc in omega arith) }
