use Rattle.std.proofs.Common.{◌≡◌, ℕ, ◌<◌, ◌≤◌, cond, List, [], ◌∷◌, length, get_or, Some, None, sym, refl, ap, ◌∙◌, ⊎_elim, arith}
use Rattle.std.specs.List.{slice_get}
use Rattle.std.specs.Option.{option_map}
use Rattle.std.proofs.lemmas.Option.{same_Some, slice_get-get_or, slice_get_past}
use Rattle.scheme.specs.declared.rows.Reach.{Reach}
use Rattle.std.proofs.lemmas.Result.{err_from_is_err_and}
use Rattle.std.proofs.lemmas.Bool.{cases_lt, lt-ltb, le-ltb, le-leb, lt-leb}
use Rattle.scheme.specs.declared.faults.Layer.TheVariants.{Call}
use Rattle.scheme.specs.Bounds.{greatest_limit}
use Rattle.scheme.specs.Questions.{Question, or_else, first_no, book_questions}
use Rattle.scheme.specs.Refusals.{refused}
use Rattle.scheme.specs.Scheme.{Scheme, no_reach}
use Rattle.scheme.proofs.Asked.{refuses, passes, passes_all, refuses_all}
use Rattle.scheme.proofs.Searches.{some≢none}
use Rattle.solver.specs.Calls.{ask_reach, limit_asked, ask_flow, limit_questions}
use Rattle.solver.proofs.opening.ask_limit.Goals as goal

abbrev later : Scheme → ℕ → ℕ → List Question
later s k x = ask_reach s k ∷ limit_asked x ∷ ask_flow s k x ∷ []

-- what is read is there of a reach in the list, and absent of none
module _ {X : Type 0} (f : Reach → X) (rs : List Reach) (k : ℕ) where
  read_within : k < length rs → option_map f (slice_get rs k) ≡ Some (f (get_or rs k no_reach))
  read_within within = ap (option_map f) (slice_get-get_or rs k no_reach within)

  read_there : (x : X) → Some x ≡ option_map f (slice_get rs k) → (k < length rs) × (x ≡ f (get_or rs k no_reach))
  read_there x is =
      ⊎_elim
      (λ within. (within, same_Some _ _ (is ∙ read_within within)))
      (λ past. absurd (some≢none (is ∙ ap (option_map f) (slice_get_past rs k past))))
      (cases_lt k (length rs))

  read_absent : None ≡ option_map f (slice_get rs k) → length rs ≤ k
  read_absent is =
      ⊎_elim (λ within. absurd (some≢none (sym (is ∙ read_within within)))) (λ past. past) (cases_lt k (length rs))

-- the questions from the reach on, answered yes before a no
module _ (s : Scheme) (k x : ℕ) (book : None ≡ first_no (book_questions s)) where
  no_such_reach : length s.reaches ≤ k → Some (refused Call 11 0) ≡ first_no (limit_questions s k x)
  no_such_reach past =
      let no : ask_reach s k ≡ Some (refused Call 11 0) = ap (λ t. cond t None (Some (refused Call 11 0))) (le-ltb k (length s.reaches) past) in
      passes_all (book_questions s) (later s k x) (sym book) (refuses (ask_reach s k) _ no)

  reach_there : {q : Question} → k < length s.reaches → q ≡ or_else (limit_asked x) (or_else (ask_flow s k x) None) → q ≡ first_no (limit_questions s k x)
  reach_there within rest =
      let yes : ask_reach s k ≡ None = ap (λ t. cond t None (Some (refused Call 11 0))) (lt-ltb k (length s.reaches) within) in
      passes_all (book_questions s) (later s k x) (sym book) (passes (ask_reach s k) _ yes rest)

  too_great : greatest_limit < x → Some (refused Call 12 0) ≡ or_else (limit_asked x) (or_else (ask_flow s k x) None)
  too_great great =
      let no : limit_asked x ≡ Some (refused Call 12 0) = ap (λ t. cond t None (Some (refused Call 12 0))) (lt-leb x greatest_limit great) in
      refuses (limit_asked x) _ no

  allowed : {q : Question} → x ≤ greatest_limit → q ≡ or_else (ask_flow s k x) None → q ≡ or_else (limit_asked x) (or_else (ask_flow s k x) None)
  allowed small rest =
      let yes : limit_asked x ≡ None = ap (λ t. cond t None (Some (refused Call 12 0))) (le-leb x greatest_limit small) in
      passes (limit_asked x) _ yes rest

  under_flow : x < (get_or s.reaches k no_reach).flow → Some (refused Call 13 0) ≡ or_else (ask_flow s k x) None
  under_flow under =
      let no : ask_flow s k x ≡ Some (refused Call 13 0) = ap (λ t. cond t None (Some (refused Call 13 0))) (lt-leb (get_or s.reaches k no_reach).flow x under) in
      refuses (ask_flow s k x) _ no

  holds_flow : (get_or s.reaches k no_reach).flow ≤ x → None ≡ or_else (ask_flow s k x) None
  holds_flow over =
      let yes : ask_flow s k x ≡ None = ap (λ t. cond t None (Some (refused Call 13 0))) (le-leb (get_or s.reaches k no_reach).flow x over) in
      passes (ask_flow s k x) _ yes refl

pub returns-in_err-ask_book-clause-answer : goal.returns-in_err-ask_book-clause-answer
returns-in_err-ask_book-clause-answer g c =
    let s = g.R.Register.scheme c.args.register.now in
    let p = err_from_is_err_and c.from_residual.result c.from_residual.ensures.1 in
    rw (p.1, p.2)
    (refuses_all (book_questions s) (later s c.args.reach c.args.limit) (sym c.in_err-ask_book.ensures.answer))

-- what was read
abbrev both : Reach → ℕ × ℕ
both r = (r.limit, r.flow)

pub returns-in_default-clause-answer : goal.returns-in_default-clause-answer
returns-in_default-clause-answer g c =
    let s = g.R.Register.scheme c.args.register.now in
    no_such_reach s c.args.reach c.args.limit c.in_ok-ask_book.ensures.answer (read_absent both s.reaches c.args.reach c.in_default.ensures)

pub returns-then-limit-gt-GREATEST_LIMIT-clause-answer : goal.returns-then-limit-gt-GREATEST_LIMIT-clause-answer
returns-then-limit-gt-GREATEST_LIMIT-clause-answer g c =
    let s = g.R.Register.scheme c.args.register.now in
    let k = c.args.reach in
    let x = c.args.limit in
    let book = c.in_ok-ask_book.ensures.answer in
    reach_there s k x book (read_there both s.reaches k _ c.in-Some.ensures).0 (too_great s k x book c.if-limit-gt-GREATEST_LIMIT.true)

pub returns-then-limit-flow-clause-answer : goal.returns-then-limit-flow-clause-answer
returns-then-limit-flow-clause-answer g c =
    let s = g.R.Register.scheme c.args.register.now in
    let k = c.args.reach in
    let x = c.args.limit in
    let book = c.in_ok-ask_book.ensures.answer in
    let read = read_there both s.reaches k _ c.in-Some.ensures in
    let flow : c.in-Some.flow ≡ (get_or s.reaches k no_reach).flow = ap (λ p. p.1) read.1 in
    reach_there s k x book read.0 (allowed s k x book c.if-limit-gt-GREATEST_LIMIT.false (under_flow s k x book (omega (arith, flow, c.if-limit-flow.true))))

pub returns-clause-answer : goal.returns-clause-answer
returns-clause-answer g c =
    let s = g.R.Register.scheme c.args.register.now in
    let k = c.args.reach in
    let x = c.args.limit in
    let book = c.in_ok-ask_book.ensures.answer in
    let read = read_there both s.reaches k _ c.in-Some.ensures in
    let flow : c.in-Some.flow ≡ (get_or s.reaches k no_reach).flow = ap (λ p. p.1) read.1 in
    reach_there s k x book read.0 (allowed s k x book c.if-limit-gt-GREATEST_LIMIT.false (holds_flow s k x book (omega (arith, flow, c.if-limit-flow.false))))

pub returns-clause-old : goal.returns-clause-old
returns-clause-old g c = ap (λ p. p.0) (read_there both (g.R.Register.scheme c.args.register.now).reaches c.args.reach _ c.in-Some.ensures).1
