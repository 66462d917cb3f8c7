use Rattle.std.proofs.Common.{◌≡◌, length, ap, ◌∙◌, sym, arith}
use Rattle.report_lines.specs.Laid.{written}
use Rattle.report_lines.proofs.Pages.{line_of_flow}
use Rattle.report_lines.proofs.page.put_page_line.Goals as goal

pub returns-in_default-clause-told : goal.returns-in_default-clause-told
returns-in_default-clause-told g c =
    c.put_reach.ensures.told
    ∙ ap length (sym (line_of_flow (g.R.Register.scheme c.args.few.now.register.now) c.args.marks.now c.args.rounds c.args.line (omega arith)))

pub returns-in_default-clause-table : goal.returns-in_default-clause-table
returns-in_default-clause-table g c =
    c.put_reach.ensures.table
    ∙ ap (λ l. written l c.args.table.now) (sym (line_of_flow (g.R.Register.scheme c.args.few.now.register.now) c.args.marks.now c.args.rounds c.args.line (omega arith)))
