-- What follows where every question of a list was answered yes.
use Rattle.std.proofs.Common.{◌≡◌, Bool, true, false, cond, List, [], ◌∷◌, ◌++◌, Some, None, refl}
use Rattle.scheme.specs.declared.faults.Refusal.{Refusal}
use Rattle.scheme.specs.Questions.{Question, or_else, first_no}
use Rattle.scheme.proofs.Searches.{some≢none}

-- the first of them, and the others
pub yes_first : (q later : Question) → or_else q later ≡ None → q ≡ None
yes_first None later e = refl
yes_first (Some refusal) later e = absurd (some≢none e)

pub yes_then : (q later : Question) → or_else q later ≡ None → later ≡ None
yes_then None later e = e
yes_then (Some refusal) later e = absurd (some≢none e)

-- those of a list, and those that come after it
pub yes_front : (qs later : List Question) → first_no (qs ++ later) ≡ None → first_no qs ≡ None
yes_front [] later e = refl
yes_front (None ∷ qs) later e = yes_front qs later e
yes_front (Some refusal ∷ qs) later e = absurd (some≢none e)

pub yes_back : (qs later : List Question) → first_no (qs ++ later) ≡ None → first_no later ≡ None
yes_back [] later e = e
yes_back (None ∷ qs) later e = yes_back qs later e
yes_back (Some refusal ∷ qs) later e = absurd (some≢none e)

-- a test that was answered yes
pub yes_test : (t : Bool) (refusal : Refusal) → cond t None (Some refusal) ≡ None → t ≡ true
yes_test true refusal e = refl
yes_test false refusal e = absurd (some≢none e)

pub yes_one : (t : Bool) (refusal : Refusal) → first_no (cond t None (Some refusal) ∷ []) ≡ None → t ≡ true
yes_one true refusal e = refl
yes_one false refusal e = absurd (some≢none e)
