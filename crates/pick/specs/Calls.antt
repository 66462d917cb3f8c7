-- What starting, raising and taking answer, and what they do to a pick's keys.
use Rattle.std.specs.Prelude.{◌≡◌, ℕ, ◌+◌, ◌-◌, ◌^◌, cond, [], ◌∷◌, ◌++◌, replicate, is_some, Some, None, Option, nat_le, slice_set}
use Rattle.std.specs.Option.{unwrap_or}
use Rattle.scheme.specs.declared.faults.Layer.TheVariants.{Pick}
use Rattle.scheme.specs.Refusals.{refused}
use Rattle.scheme.specs.Questions.{Question, first_no}
use Rattle.pick.specs.Keys.{Keys, size, key_of, Outside, NoneOutside, NoneGreater}

-- what a call leaves: what it does where no question was answered no, and what was there where one was
abbrev pub unless_refused : Question → Keys → Keys → Keys
unless_refused None before done = done
unless_refused (Some refusal) before done = before

-- the keys of a fresh pick: no point is outside
abbrev pub fresh : ℕ → Keys
fresh n = replicate n None

-- Does the pick hold n points?
abbrev pub ask_start : Keys → ℕ → Question
ask_start ks n = cond (nat_le n (size ks)) None (Some (refused Pick 10 0))

-- exactly the points below n are outside, with key 0
abbrev pub started : ℕ → ℕ → Keys
started points n = replicate n (Some 0) ++ replicate (points - n) None

abbrev pub after_start : Keys → ℕ → Keys
after_start ks n = unless_refused (ask_start ks n) ks (started (size ks) n)

-- the greatest key that a point may have
abbrev pub greatest_key : ℕ
greatest_key = 2 ^ 40

-- Is the point outside?
abbrev pub ask_outside : Keys → ℕ → Question
ask_outside ks v = cond (is_some (key_of ks v)) None (Some (refused Pick 17 v))

abbrev pub raised_key : Keys → ℕ → ℕ → ℕ
raised_key ks v by = unwrap_or (key_of ks v) 0 + by

-- Does its raised key stay within the greatest?
abbrev pub ask_key : Keys → ℕ → ℕ → Question
ask_key ks v by = cond (nat_le (raised_key ks v by) greatest_key) None (Some (refused Pick 18 v))

abbrev pub ask_raise : Keys → ℕ → ℕ → Question
ask_raise ks v by = first_no (ask_outside ks v ∷ ask_key ks v by ∷ [])

abbrev pub after_raise : Keys → ℕ → ℕ → Keys
after_raise ks v by = unless_refused (ask_raise ks v by) ks (slice_set ks v (Some (raised_key ks v by)))

-- The point v was taken with the key k.
pub record Taken (before : Keys) (v k : ℕ) (after : Keys) : Type 0 where
  pub outside : Outside before v k
  -- FREE: which of several outside points with the greatest key is taken is not said. This alone
  -- fences the choice in, and a rule for equal keys would stand beside it as a part of its own.
  pub greatest : NoneGreater before k
  -- just that point is inside then
  pub leaves : after ≡ slice_set before v None

-- Nothing was there to take.
pub record NothingTaken (before after : Keys) : Type 0 where
  pub empty : NoneOutside before
  pub unchanged : after ≡ before

-- what one taking answers and leaves
abbrev pub Takes : Keys → Option (ℕ × ℕ) → Keys → Type 0
Takes before None after = NothingTaken before after
Takes before (Some taken) after = Taken before taken.0 taken.1 after
