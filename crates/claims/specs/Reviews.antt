-- What the review of a claim answers.
use Rattle.std.specs.Prelude.{◌≡◌, ℕ, ◌⊎◌, List, length, Some, None, Ok, Err, vec_items, Result}
use Rattle.scheme.specs.declared.faults.Refusal.{Refusal}
use Rattle.scheme.specs.Flow.{value}
use Rattle.scheme.specs.Marks.{check_questions}
use Rattle.scheme.specs.Questions.{Question, first_no}
use Rattle.scheme.specs.Refusals.{call_refusal}
use Rattle.scheme.specs.Scheme.{Scheme}
use Rattle.scheme_file.specs.Asked.{file_fault}
use Rattle.scheme_file.specs.Layout.{Means}
use Rattle.claims.specs.Sides.{MarksOf}
use Rattle.claims.specs.declared.reviewing.Claim.{Claim}
use Rattle.claims.specs.declared.reviewing.Stop.{Stop}
use Rattle.claims.specs.declared.reviewing.Stop.TheVariants.{Refused, Memory}

-- the bytes are a file that means the scheme, the marks are those of the side, and this is the first question
-- of the check that is answered no, if any
pub record Asked (bs side : List ℕ) (s : Scheme) (marks : List ℕ) (answer : Question) : Type 0 where
  pub file : Means bs s
  pub members : MarksOf s.points side marks
  pub check : first_no (check_questions s marks) ≡ answer

-- every question was answered yes, and the claim tells of that scheme
pub record Upheld (bs side : List ℕ) (claim : Claim) : Type 0 where
  pub scheme : Scheme
  pub asked : Asked bs side scheme (vec_items claim.marks) None
  pub points : claim.points ≡ scheme.points
  pub reaches : claim.reaches ≡ length scheme.reaches
  pub value_is : claim.value ≡ value scheme

-- the bytes are no file, or the check answers no
abbrev pub NotUpheld : List ℕ → List ℕ → Refusal → Type 0
NotUpheld bs side refusal =
    (file_fault bs ≡ Some refusal) ⊎ ((s : Scheme) × ((marks : List ℕ) × Asked bs side s marks (Some refusal)))

abbrev pub Reviewed : List ℕ → List ℕ → Result Claim Stop → Type 0
Reviewed bs side (Ok claim) = Upheld bs side claim
Reviewed bs side (Err (Refused fault)) = NotUpheld bs side (call_refusal fault)
Reviewed bs side (Err Memory) = Unit {0}
