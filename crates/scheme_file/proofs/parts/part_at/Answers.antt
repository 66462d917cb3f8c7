use Rattle.std.proofs.Common.{sym, ap, ◌∙◌, arith}
use Rattle.scheme_file.specs.Kinds.{kind_number}
use Rattle.scheme_file.proofs.PartRecords.{head_part, note_part, rows_part}
use Rattle.scheme_file.proofs.parts.part_at.Goals as goal

pub returns-in-Some-as_array-clause-found : goal.returns-in-Some-as_array-clause-found
returns-in-Some-as_array-clause-found c =
    let (within, long, is) = c.in-Some.ensures in
    let kind = sym c.kind_number_at.ensures ∙ sym c.in-Ok.ensures ∙ ap kind_number c.in-Head.is in
    let six = c.in-Some-as_array.ensures.cases in
    (omega arith, head_part _ _ (λ i. (c.type_inv.bytes i).fits) within c.in-Some.body long is kind six.long _ six.same)

pub returns-else-size-gt-MOST_ROWS-clause-found : goal.returns-else-size-gt-MOST_ROWS-clause-found
returns-else-size-gt-MOST_ROWS-clause-found c =
    let (within, long, is) = c.in-Some.ensures in
    let kind = sym c.kind_number_at.ensures ∙ sym c.in-Ok.ensures ∙ ap kind_number c.in-Rows.is in
    (omega arith, rows_part _ _ (λ i. (c.type_inv.bytes i).fits) within _ long is kind (omega arith))

pub returns-in-Note-clause-found : goal.returns-in-Note-clause-found
returns-in-Note-clause-found c =
    let (within, long, is) = c.in-Some.ensures in
    let kind = sym c.kind_number_at.ensures ∙ sym c.in-Ok.ensures ∙ ap kind_number c.in-Note.is in
    (omega arith, note_part _ _ (λ i. (c.type_inv.bytes i).fits) within _ long is kind)
