-- No question that a call puts first is refused with 14: only cut refuses so, after its ordering.
use Rattle.std.proofs.Common.{◌≡◌, ℕ, Bool, true, false, cond, ltb, leb, List, [], ◌∷◌, ◌++◌, length, get_or, Some, None, Option, sym, ap, ◌∙◌, arith}
use Rattle.std.specs.Option.{option_map}
use Rattle.scheme.specs.declared.faults.CallFault.{CallFault}
use Rattle.scheme.specs.declared.faults.CallFault.TheVariants.{Gains}
use Rattle.scheme.specs.declared.faults.Layer.{Layer}
use Rattle.scheme.specs.declared.faults.Layer.TheVariants.{Book, Call, Pick}
use Rattle.scheme.specs.declared.faults.Refusal.{Refusal}
use Rattle.scheme.specs.Bounds.{greatest_limit}
use Rattle.scheme.specs.Scheme.{Scheme, no_reach}
use Rattle.scheme.specs.Refusals.{refused, call_refusal}
use Rattle.scheme.specs.Questions.{Question, or_else, first_no, book_questions}
use Rattle.scheme.specs.Questions.{shaped, joins, carries, steady, first_fail, first_point}
use Rattle.pick.specs.Keys.{Keys, size}
use Rattle.pick.specs.Calls.{ask_start}
use Rattle.scheme.proofs.Searches.{some≢none}
use Rattle.solver.specs.Calls.{FirstNo, ask_tables, ask_reach, limit_asked, ask_flow, ordering_questions, limit_questions}

abbrev gains : Refusal
gains = call_refusal Gains

-- a question that tells another number leaves it to those after it
other_number :
    (t : Bool) (l : Layer) (n : ℕ) (later : Question) → (n ≡ 14 → ⊥)
    → or_else (cond t None (Some (refused l n 0))) later ≡ Some gains → later ≡ Some gains
other_number true l n later apart tells = tells
other_number false l n later apart tells =
    let same : refused l n 0 ≡ gains = cc in absurd (apart (ap (λ r. r.number) same))

other_place :
    (o : Option ℕ) (l : Layer) (n : ℕ) (later : Question) → (n ≡ 14 → ⊥)
    → or_else (option_map (refused l n) o) later ≡ Some gains → later ≡ Some gains
other_place None l n later apart tells = tells
other_place (Some place) l n later apart tells =
    let same : refused l n place ≡ gains = cc in absurd (apart (ap (λ r. r.number) same))

-- the book's questions leave it to those after them
book_tells :
    (s : Scheme) (later : List Question) → first_no (book_questions s ++ later) ≡ Some gains → first_no later ≡ Some gains
book_tells s later tells =
    other_place (first_point (steady s) 0 s.points) Book 9 _ (λ e. omega arith)
    (other_place (first_fail carries 0 s.reaches) Book 8 _ (λ e. omega arith)
    (other_place (first_fail (joins s) 0 s.reaches) Book 7 _ (λ e. omega arith)
    (other_number (shaped s) Book 6 _ (λ e. omega arith) tells)))

ordering_tells : (s : Scheme) (hold : Bool) (ks : Keys) → first_no (ordering_questions s hold ks) ≡ Some gains → ⊥
ordering_tells s hold ks tells =
    some≢none
    (sym
    (other_number (leb s.points (size ks)) Pick 10 None (λ e. omega arith)
    (other_number hold Call 10 _ (λ e. omega arith)
    (book_tells s (ask_tables hold ∷ ask_start ks s.points ∷ []) tells))))

limit_tells : (s : Scheme) (k x : ℕ) → first_no (limit_questions s k x) ≡ Some gains → ⊥
limit_tells s k x tells =
    some≢none
    (sym
    (other_number (leb (get_or s.reaches k no_reach).flow x) Call 13 None (λ e. omega arith)
    (other_number (leb x greatest_limit) Call 12 _ (λ e. omega arith)
    (other_number (ltb k (length s.reaches)) Call 11 _ (λ e. omega arith)
    (book_tells s (ask_reach s k ∷ limit_asked x ∷ ask_flow s k x ∷ []) tells)))))

-- the first no of a list whose fault is that one
told_gains : (qs : List Question) (fault : CallFault) → FirstNo qs fault → fault ≡ Gains → first_no qs ≡ Some gains
told_gains qs fault tells e = tells ∙ ap (λ f. Some (call_refusal f)) e

-- so none of these refusals is that one
pub ordering_refused :
    (s : Scheme) (hold : Bool) (ks : Keys) (fault : CallFault) → FirstNo (ordering_questions s hold ks) fault
    → fault ≡ Gains → ⊥
ordering_refused s hold ks fault tells e =
    ordering_tells s hold ks (told_gains (ordering_questions s hold ks) fault tells e)

pub limit_refused :
    (s : Scheme) (k x : ℕ) (fault : CallFault) → FirstNo (limit_questions s k x) fault → fault ≡ Gains → ⊥
limit_refused s k x fault tells e = limit_tells s k x (told_gains (limit_questions s k x) fault tells e)
