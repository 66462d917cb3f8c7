use Rattle.std.proofs.Common.{length, Ok, Err, sym, ap, ◌∙◌, subst, arith, rules}
use Rattle.std.proofs.lemmas.Result.{err_from_is_err_and}
use Rattle.std.proofs.lemmas.Bool.{eqb-false}
use Rattle.scheme_file.specs.Asked.{ending}
use Rattle.scheme_file.specs.Walking.{Step}
use Rattle.scheme_file.proofs.Steps.{going_all, going_other, going_refused, going_rows}
use Rattle.scheme_file.proofs.Walks.{ending_later, walking_none}
use Rattle.scheme_file.proofs.reading.row_block.Goals as goal

pub loop-part-init : goal.loop-part-init
loop-part-init c =
    let walking = walking_none c.args.bytes.now in
    search rules

pub returns-in_err-at-clause-answer : goal.returns-in_err-at-clause-answer
returns-in_err-at-clause-answer c =
    let step : Step c.loop-part.part-iterator (Err c.in_err-at.field-0.0) c.next.new.self =
    subst (λ item. Step c.loop-part.part-iterator item c.next.new.self) c.in_err-at.was c.in-Some.ensures.steps in
    let p = err_from_is_err_and c.from_residual.result c.from_residual.ensures.1 in
    rw (p.1, p.2) (sym (going_refused c.args.bytes.now _ _ _ c.loop-part.invariant (omega arith) _ step))

pub loop-part-preserved-in-Rows : goal.loop-part-preserved-in-Rows
loop-part-preserved-in-Rows c =
    let step = subst (λ item. Step c.loop-part.part-iterator item c.next.new.self) (c.in_ok-at.was ∙ ap Ok c.in-Rows.is) c.in-Some.ensures.steps in
    going_rows c.args.bytes.now _ _ _ c.loop-part.invariant (omega arith) _ _ step

pub loop-part-preserved : goal.loop-part-preserved
loop-part-preserved c =
    let step = subst (λ item. Step c.loop-part.part-iterator item c.next.new.self) c.in_ok-at.was c.in-Some.ensures.steps in
    going_other c.args.bytes.now _ _ _ c.loop-part.invariant (omega arith) _ c.in_default.not-Rows step

pub returns-in-Some-rows-clause-answer : goal.returns-in-Some-rows-clause-answer
returns-in-Some-rows-clause-answer c =
    sym (going_all c.args.bytes.now _ c.next.new.self _ c.loop-part.invariant (omega arith) c.in-None.ensures.steps.0 ∙ ap (ending _) c.in-Some-rows.is)

pub returns-in-None-2-clause-answer : goal.returns-in-None-2-clause-answer
returns-in-None-2-clause-answer c =
    sym (going_all c.args.bytes.now _ c.next.new.self _ c.loop-part.invariant (omega arith) c.in-None.ensures.steps.0 ∙ ap (ending _) c.in-None-2.is ∙ ending_later _ (eqb-false (length c.args.bytes.now) 0 (sym c.if-is_empty.ensures)))
