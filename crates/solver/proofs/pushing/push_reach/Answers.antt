use Rattle.std.proofs.Common.{min, ap, ◌∙◌}
use Rattle.solver.proofs.OneReach.{row_joined, gets_on, gets_back, gets_fits, gets_flows}
use Rattle.solver.proofs.pushing.push_reach.Goals as goal

-- the reach ends at the point

pub move_need-requires-clause-fits : goal.move_need-requires-clause-fits
move_need-requires-clause-fits g c =
    let gets = gets_on c.requires c.read_reach-row.ensures c.comes_from_earlier.ensures c.if-comes_from_earlier.true c.from.ensures (c.min-taken.ensures ∙ ap (min _) c.from-then-comes_from_earlier.ensures) in
    gets_fits c.requires c.read_reach-row.ensures gets (row_joined c.requires c.read_reach-row.ensures).tail_point

pub returns-then-comes_from_earlier-clause-flows : goal.returns-then-comes_from_earlier-clause-flows
returns-then-comes_from_earlier-clause-flows g c =
    let gets = gets_on c.requires c.read_reach-row.ensures c.comes_from_earlier.ensures c.if-comes_from_earlier.true c.from.ensures (c.min-taken.ensures ∙ ap (min _) c.from-then-comes_from_earlier.ensures) in
    c.set_flow.ensures.after ∙ gets_flows c.requires c.read_reach-row.ensures gets

-- the reach starts at the point

pub move_need-requires-then-comes_from_earlier-2-clause-fits : goal.move_need-requires-then-comes_from_earlier-2-clause-fits
move_need-requires-then-comes_from_earlier-2-clause-fits g c =
    let gets = gets_back c.requires c.read_reach-row.ensures c.comes_from_earlier.ensures c.if-comes_from_earlier.false c.comes_from_earlier-else-comes_from_earlier.ensures c.if-comes_from_earlier-2.true c.from-then-comes_from_earlier-2.ensures (c.min-taken-then-comes_from_earlier-2.ensures ∙ ap (min _) c.from-then-comes_from_earlier-2-2.ensures) in
    gets_fits c.requires c.read_reach-row.ensures gets (row_joined c.requires c.read_reach-row.ensures).head_point

pub returns-then-comes_from_earlier-2-clause-flows : goal.returns-then-comes_from_earlier-2-clause-flows
returns-then-comes_from_earlier-2-clause-flows g c =
    let gets = gets_back c.requires c.read_reach-row.ensures c.comes_from_earlier.ensures c.if-comes_from_earlier.false c.comes_from_earlier-else-comes_from_earlier.ensures c.if-comes_from_earlier-2.true c.from-then-comes_from_earlier-2.ensures (c.min-taken-then-comes_from_earlier-2.ensures ∙ ap (min _) c.from-then-comes_from_earlier-2-2.ensures) in
    c.set_flow-then-comes_from_earlier-2.ensures.after ∙ gets_flows c.requires c.read_reach-row.ensures gets
