-- A published side as a list of marks, one for each point, and the questions of its review.
use Rattle.std.specs.Prelude.{◌≡◌, ℕ, ◌≤◌, Bool, true, false, cond, not, ◌&&◌, ◌||◌, List, [], ◌∷◌, ◌++◌, length, ℤ, pos, negsuc, Some, None, Decides, ◌==◌, nat_le, slice_index}
use Rattle.std.specs.List.{AllByRecursion}
use Rattle.scheme.specs.declared.faults.Layer.TheVariants.{Call}
use Rattle.scheme.specs.Scheme.{Scheme}
use Rattle.scheme.specs.Flow.{Points, Side, Lawful, value, capacity}
use Rattle.scheme.specs.Refusals.{refused}
use Rattle.scheme.specs.Questions.{Question, book_questions, WellFormed}

-- the points that are marked with 1
abbrev pub marked : List ℕ → Points
marked marks v = slice_index marks v == 1

-- a list of marks that is a side: one mark for each point, 0 or 1, and the points with 1 are a side
pub record MarksSide (s : Scheme) (marks : List ℕ) : Type 0 where
  pub count : length marks ≡ s.points
  pub bits : AllByRecursion (λ m. m ≤ 1) marks
  pub side : Side s (marked marks)

-- May this mark stand at a point? At the inlet 1, at the outlet 0, elsewhere either.
abbrev pub fitting : Bool → Bool → ℕ → Bool
fitting inlet outlet m = nat_le m 1 && (not inlet || m == 1) && (not outlet || m == 0)

abbrev pub all_bits : List ℕ → Bool
all_bits [] = true
all_bits (m ∷ ms) = nat_le m 1 && all_bits ms

-- Are there n marks, each 0 or 1, the inlet's 1 and the outlet's 0?
abbrev pub sided : Scheme → List ℕ → Bool
sided s marks =
    (length marks == s.points) && all_bits marks && marked marks s.inlet && not (marked marks s.outlet)

abbrev pub ask_side : Scheme → List ℕ → Question
ask_side s marks = cond (sided s marks) None (Some (refused Call 15 0))

abbrev pub is_number : ℤ → ℕ → Bool
is_number (pos z) n = z == n
is_number (negsuc z) n = false

-- Is the value the side's capacity?
abbrev pub tight : Scheme → List ℕ → Bool
tight s marks = is_number (value s) (capacity s (marked marks))

abbrev pub ask_capacity : Scheme → List ℕ → Question
ask_capacity s marks = cond (tight s marks) None (Some (refused Call 16 0))

-- what is asked of the marks
abbrev pub side_questions : Scheme → List ℕ → List Question
side_questions s marks = ask_side s marks ∷ ask_capacity s marks ∷ []

abbrev pub check_questions : Scheme → List ℕ → List Question
check_questions s marks = book_questions s ++ side_questions s marks

-- On a well-formed register, a list of marks that is a side is accepted exactly if the flow is lawful and the side's
-- capacity is its value.
abbrev pub ReviewDecides : Scheme → List ℕ → Bool → Type 0
ReviewDecides s marks accepted =
    WellFormed s → MarksSide s marks → Decides accepted (Lawful s × (value s ≡ pos (capacity s (marked marks))))

-- What the review accepts: the register is well formed, its flow lawful, the marks are a side, and the side's
-- capacity is the value (in the field: a flow and a cut that meet).
pub record Pinch (s : Scheme) (marks : List ℕ) : Type 0 where
  pub formed : WellFormed s
  pub lawful : Lawful s
  pub side : MarksSide s marks
  pub meets : value s ≡ pos (capacity s (marked marks))
