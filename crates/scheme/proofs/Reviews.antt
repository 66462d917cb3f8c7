-- What an accepted review means.
use Rattle.std.proofs.Common.{◌≡◌, ℕ, true, List, [], ◌∷◌, is_ok, None, Ok, Err, Result, sym, refl}
use Rattle.std.proofs.lemmas.Bool.{false≢true}
use Rattle.scheme.specs.declared.faults.CallFault.{CallFault}
use Rattle.scheme.specs.Refusals.{call_refusal, refusal_of}
use Rattle.scheme.specs.Scheme.{Scheme}
use Rattle.scheme.specs.Marks.{marked, sided, side_questions, check_questions, ask_side, ask_capacity}
use Rattle.scheme.specs.Questions.{Question, first_no, book_questions}
use Rattle.scheme.proofs.Asked.{Means, append_means, or_means, test_means, book_means}
use Rattle.scheme.proofs.Sides.{sided_decides, check_law}
use Rattle.scheme.specs.SideLaws.{Meet, AcceptedReviewMeansGreatest}
use Rattle.scheme.proofs.Cuts.{meet_best}

itself : (q : Question) → Means q (q ≡ None)
itself q = (λ e. e, λ e. e)

pub accepted_best : AcceptedReviewMeansGreatest
accepted_best s marks accepted =
    let parts = (append_means (book_questions s) (side_questions s marks) (book_means s) (itself (first_no (side_questions s marks)))).0 accepted in
    let rest : Question = first_no (ask_capacity s marks ∷ []) in
    let side = ((or_means (ask_side s marks) rest (test_means (sided s marks) _ (sided_decides s marks)) (itself rest)).0 parts.1).0 in
    let law = (check_law s marks (Ok tt) (sym accepted) parts.0.0 side).0 refl in
    meet_best s (marked marks) parts.0.0 law.0 side.side law.1

-- the same, of what the check answers
pub check_best :
    (s : Scheme) (marks : List ℕ) (r : Result (Unit {0}) CallFault)
    → refusal_of call_refusal r ≡ first_no (check_questions s marks) → is_ok r ≡ true → Meet s (marked marks)
check_best s marks (Ok x) told ok = accepted_best s marks (sym told)
check_best s marks (Err fault) told ok = absurd (false≢true ok)
