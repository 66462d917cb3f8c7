use Rattle.std.proofs.Common.{◌≡◌, ℕ, List, Err, Some, Result, vec_items, sym, ap, ◌∙◌, subst, inr, w64, SFits, rules}
use Rattle.std.specs.Result.{IsErrAnd}
use Rattle.std.proofs.lemmas.Result.{err_from_is_err_and}
use Rattle.std.proofs.lemmas.Int.{to_z-of_z}
use Rattle.scheme.proofs.Asked.{refuses_all}
use Rattle.scheme.specs.declared.faults.CallFault.{CallFault}
use Rattle.scheme.specs.Marks.{check_questions, side_questions}
use Rattle.scheme.specs.Questions.{Question, first_no, book_questions}
use Rattle.scheme.specs.Refusals.{call_refusal}
use Rattle.scheme.specs.Scheme.{Scheme}
use Rattle.scheme_file.specs.Files.{file_scheme}
use Rattle.scheme_file.specs.Layout.{Means}
use Rattle.claims.specs.declared.reviewing.Claim.{Claim}
use Rattle.claims.specs.declared.reviewing.Stop.{Stop}
use Rattle.claims.specs.declared.reviewing.Stop.TheVariants.{Refused}
use Rattle.claims.specs.Reviews.{Asked, Reviewed}
use Rattle.claims.specs.Sides.{MarksOf}
use Rattle.claims.proofs.reviewing.review.Goals as goal

module _ (bs side : List ℕ) (s : Scheme) (marks : List ℕ) where
  asked : (n : ℕ) (answer : Question) → Means bs s → n ≡ s.points → MarksOf n side marks → answer ≡ first_no (check_questions s marks) → Asked bs side s marks answer
  asked n answer means points members told =
      record { file = means; members = subst (λ k. MarksOf k side marks) points members; check = sym told }

  told_refused : (fault : CallFault) (r : Result Claim Stop) → IsErrAnd r (λ stop. stop ≡ Refused fault) → Asked bs side s marks (Some (call_refusal fault)) → Reviewed bs side r
  told_refused fault r is told =
      let e = err_from_is_err_and r is in subst (Reviewed bs side) (sym (e.1 ∙ ap Err e.2)) (inr (s, (marks, told)))

pub returns-in_err-check : goal.returns-in_err-check
returns-in_err-check c =
    let s = file_scheme c.in_ok-file.file in
    let side = c.args.side.now in
    let marks = vec_items c.in_ok-marks.marks in
    told_refused c.args.bytes.now side s marks _ _ c.from_residual-in_err-check.ensures.1
    (asked c.args.bytes.now side s marks _ _ c.in_ok-file.ensures.means c.points-points.ensures c.in_ok-marks.ensures
    (c.in_err-check.ensures.answer ∙ ap (λ ms. first_no (check_questions s ms)) c.as_slice.ensures.value))

pub returns-in_err-value : goal.returns-in_err-value
returns-in_err-value c =
    let s = file_scheme c.in_ok-file.file in
    let side = c.args.side.now in
    let marks = vec_items c.in_ok-marks.marks in
    told_refused c.args.bytes.now side s marks _ _ c.from_residual-in_err-value.ensures.1
    (asked c.args.bytes.now side s marks _ _ c.in_ok-file.ensures.means c.points-points.ensures c.in_ok-marks.ensures
    (refuses_all (book_questions s) (side_questions s marks) (sym c.in_err-value.ensures.answer)))

pub returns : goal.returns
returns c =
    let s = file_scheme c.in_ok-file.file in
    let side = c.args.side.now in
    let marks = vec_items c.in_ok-marks.marks in
    let fits : SFits w64 c.in_ok-value.value = search rules in
    record {
      scheme = s;
      asked =
          asked c.args.bytes.now side s marks _ _ c.in_ok-file.ensures.means c.points-points.ensures c.in_ok-marks.ensures
          (c.in_ok-check.ensures.answer ∙ ap (λ ms. first_no (check_questions s ms)) c.as_slice.ensures.value);
      points = c.points-points.ensures;
      reaches = c.reaches-reaches.ensures;
      value_is = to_z-of_z w64 c.in_ok-value.value fits ∙ c.in_ok-value.ensures.value;
    }
