-- The walk over a file's records, a turn at a time.
use Rattle.std.proofs.Common.{◌≡◌, ℕ, zero, suc, pred, Ok, true, ◌+◌, ◌/◌, ◌%◌, ◌<◌, ◌≤◌, Bool, eqb, ◌⊎◌, List, length, is_some, IfSome, Some, None, Err, Option, sym, refl, ap, ◌∙◌, inl, inr, ⊎_elim, arith}
use native.Mathlib.Nat.{suc-pred-eq_of_pos}
use Rattle.std.proofs.lemmas.Bool.{lt-ltb, le-ltb, le-leb, cases_Bool, eqb-true, ne_eqb}
use Rattle.std.proofs.lemmas.Bool.Decides.{nat_tests}
use Rattle.scheme.specs.declared.faults.Layer.TheVariants.{File}
use Rattle.scheme.specs.declared.faults.Refusal.{Refusal}
use Rattle.scheme.specs.Refusals.{refused}
use Rattle.scheme_file.specs.Asked.{ask_record, walk, ending, rows_from, block_of_rows, end_at, length_at, kind_at}
use Rattle.scheme_file.specs.Reading.{RowsLie}

module _ (turns : ℕ) (bs : List ℕ) (at : ℕ) (rows : Option ℕ) where
  pub walk_on :
      at < length bs → ask_record bs at (is_some rows) ≡ None
      → walk (suc turns) bs at rows ≡ walk turns bs (end_at bs at) (rows_from bs at rows)
  walk_on within asked = rw (lt-ltb at (length bs) within, asked)

  pub walk_refused :
      (refusal : Refusal) → at < length bs → ask_record bs at (is_some rows) ≡ Some refusal
      → walk (suc turns) bs at rows ≡ Err refusal
  walk_refused refusal within asked = rw (lt-ltb at (length bs) within, asked)

pub walk_all :
    (turns : ℕ) (bs : List ℕ) (at : ℕ) (rows : Option ℕ) → length bs ≤ at → walk turns bs at rows ≡ ending at rows
walk_all zero bs at rows past = refl
walk_all (suc turns) bs at rows past = rw (le-ltb at (length bs) past)

cases_asked : (o : Option Refusal) → (o ≡ None) ⊎ ((x : Refusal) × (o ≡ Some x))
cases_asked None = inl refl
cases_asked (Some x) = inr (x, refl)

-- a walk that ends well goes past every record without a refusal
pub walks_on :
    (turns : ℕ) (bs : List ℕ) (at : ℕ) (rows : Option ℕ) (block : ℕ) → at < length bs
    → walk (suc turns) bs at rows ≡ Ok block → ask_record bs at (is_some rows) ≡ None
walks_on turns bs at rows block within ends =
    ⊎_elim
    (λ none. none)
    (λ some.
    let stops = walk_refused turns bs at rows some.0 within some.1 in
    let z : ◌≡◌ {A = ℕ} 0 1 = cc in
    absurd (omega arith))
    (cases_asked (ask_record bs at (is_some rows)))

-- a second row block is refused
pub no_second : (bs : List ℕ) (at : ℕ) → ask_record bs at true ≡ None → kind_at bs at ≡ 2 → ⊥
no_second bs at asked kind = grind (arith, nat_tests)

-- what the questions of a record tell where it answers them all with yes
pub record Taken (bs : List ℕ) (at : ℕ) : Type 0 where
  pub inside : end_at bs at ≤ length bs
  pub first : at ≡ 0 → (kind_at bs at ≡ 1) × (length_at bs at ≡ 6)
  pub later : 0 < at → kind_at bs at ≡ 1 → ⊥
  pub whole : kind_at bs at ≡ 2 → length_at bs at % 12 ≡ 0
  pub few : kind_at bs at ≡ 2 → length_at bs at / 12 ≤ 4096

pub taken : (bs : List ℕ) (at : ℕ) (seen : Bool) → ask_record bs at seen ≡ None → Taken bs at
taken bs at seen asked =
    record {
      inside = grind (arith, nat_tests);
      first = λ e. (grind (arith, nat_tests), grind (arith, nat_tests));
      later = λ lt e. grind (arith, nat_tests);
      whole = λ e. grind (arith, nat_tests);
      few = λ e. grind (arith, nat_tests);
    }

cases_first : (at : ℕ) → (at ≡ 0) ⊎ (0 < at)
cases_first zero = inl refl
cases_first (suc at) = inr (omega arith)

-- A walk on its way: what it comes to is what the walk from the start comes to, and a row block that it has
-- passed lies as it should.
pub record Walking (bs : List ℕ) (at : ℕ) (rows : Option ℕ) : Type 0 where
  pub turns : ℕ
  pub enough : length bs ≤ at + turns
  pub same : walk turns bs at rows ≡ walk (length bs) bs 0 None
  pub past_head : 0 < at → 12 ≤ at
  pub lie : IfSome rows (RowsLie bs)

pub walking_none : (bs : List ℕ) → Walking bs 0 None
walking_none bs =
    record { turns = length bs; enough = omega arith; same = refl; past_head = λ lt. omega arith; lie = tt }

rows_lie :
    (bs : List ℕ) (at : ℕ) (rows : Option ℕ) → Walking bs at rows → Taken bs at
    → IfSome (rows_from bs at rows) (RowsLie bs)
rows_lie bs at rows w t =
    ⊎_elim
    (λ is.
    let kind : kind_at bs at ≡ 2 = eqb-true (kind_at bs at) 2 is in
    let after : 0 < at = ⊎_elim (λ e. absurd (omega (arith, kind, (t.first e).0))) (λ lt. lt) (cases_first at) in
    rw is
    (record {
      past_head = w.past_head after;
      inside = t.inside;
      of_rows = kind;
      whole = t.whole kind;
      few = t.few kind;
    }))
    (λ other. rw other w.lie)
    (cases_Bool (eqb (kind_at bs at) 2))

some_turns : (bs : List ℕ) (at : ℕ) (rows : Option ℕ) → (w : Walking bs at rows) → at < length bs → 0 < w.turns
some_turns bs at rows w within = omega (arith, w.enough)

pub walking_more :
    (bs : List ℕ) (at : ℕ) (rows : Option ℕ) → Walking bs at rows → at < length bs
    → ask_record bs at (is_some rows) ≡ None → Walking bs (end_at bs at) (rows_from bs at rows)
walking_more bs at rows w within asked =
    let t = taken bs at (is_some rows) asked in
    let one : suc (pred w.turns) ≡ w.turns = suc-pred-eq_of_pos (some_turns bs at rows w within) in
    record {
      turns = pred w.turns;
      enough = omega (arith, w.enough);
      same = sym (walk_on (pred w.turns) bs at rows within asked) ∙ ap (λ n. walk n bs at rows) one ∙ w.same;
      past_head = λ _. ⊎_elim (λ e. omega (arith, (t.first e).1)) (λ lt. omega (arith, w.past_head lt)) (cases_first at);
      lie = rows_lie bs at rows w t;
    }

module _ (bs : List ℕ) (at : ℕ) (rows : Option ℕ) (w : Walking bs at rows) (short : length bs ≤ 65536) where
  -- what the whole reading comes to is what is left of the walk
  rest : walk w.turns bs at rows ≡ block_of_rows bs
  rest = w.same ∙ rw (le-leb (length bs) 65536 short) refl

  pub walking_refused :
      (refusal : Refusal) → at < length bs → ask_record bs at (is_some rows) ≡ Some refusal → block_of_rows bs ≡ Err refusal
  walking_refused refusal within asked =
      let one : suc (pred w.turns) ≡ w.turns = suc-pred-eq_of_pos (some_turns bs at rows w within) in
      sym rest ∙ ap (λ n. walk n bs at rows) (sym one) ∙ walk_refused (pred w.turns) bs at rows refusal within asked

  pub walking_all : length bs ≤ at → block_of_rows bs ≡ ending at rows
  walking_all past = sym rest ∙ walk_all w.turns bs at rows past

pub ending_later : (at : ℕ) → (at ≡ 0 → ⊥) → ending at None ≡ Err (refused File 5 at)
ending_later at later = rw (ne_eqb at 0 later) refl
