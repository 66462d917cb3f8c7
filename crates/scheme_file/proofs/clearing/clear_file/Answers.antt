use Rattle.std.proofs.Common.{◌∙◌, rules}
use Rattle.scheme_file.proofs.WithoutFlow.{cleared_loan, same_loan}
use Rattle.scheme_file.proofs.clearing.clear_file.Goals as goal

pub returns-clause-after : goal.returns-clause-after
returns-clause-after c =
    let f = c.lend-file.result in
    let g = c.clear_flows.new.book in
    let kept = c.clear_flows.ensures.kept in
    let loan = same_loan f g kept ∙ c.lend-file.ensures.loan in
    cleared_loan _ _ c.in_ok-found.found f g c.in_ok-found.ensures.accepted c.lend-file.ensures.same c.lend-file.ensures.rows kept c.clear_flows.ensures.after (search rules) (λ i. (c.type_inv.bytes i).fits)
