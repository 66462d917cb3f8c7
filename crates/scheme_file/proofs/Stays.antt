-- A file whose bytes change only inside its row block is accepted as before: the walk meets the same records.
use Rattle.std.proofs.Common.{◌≡◌, ℕ, zero, suc, ◌+◌, ◌<◌, ◌≤◌, Bool, true, cond, eqb, leb, ◌⊎◌, List, length, get_or, is_some, IfSome, Some, None, Ok, Err, Option, sym, refl, ap, ◌∙◌, inl, inr, ⊎_elim, arith, MatchOption}
use Rattle.std.proofs.lemmas.Bool.{cases_Bool, cases_lt, cond-true, eqb-true}
use Rattle.std.proofs.lemmas.Bool.Decides.{nat_tests}
use Rattle.scheme.specs.declared.faults.Layer.TheVariants.{File}
use Rattle.scheme.specs.declared.faults.Refusal.{Refusal}
use Rattle.scheme.specs.Refusals.{refused}
use Rattle.scheme_file.specs.Asked.{ask_record, walk, ending, rows_from, block_of_rows, end_at, length_at, kind_at}
use Rattle.scheme_file.proofs.Walks.{walk_on, walk_all, walks_on, no_second}

-- where the row block is that a walk finds: the one that it has passed, or one ahead
abbrev Ahead : Option ℕ → ℕ → ℕ → Type 0
Ahead rows at block = MatchOption rows (at ≤ block) (λ q. q ≡ block)

ending_ahead : (at : ℕ) (rows : Option ℕ) (block : ℕ) → ending at rows ≡ Ok block → Ahead rows at block
ending_ahead at None block ends = let z : ◌≡◌ {A = ℕ} 0 1 = cc in absurd (omega arith)
ending_ahead at (Some q) block ends = cc

ahead_before :
    (bs : List ℕ) (at : ℕ) (rows : Option ℕ) (block : ℕ) → ask_record bs at (is_some rows) ≡ None
    → Ahead (rows_from bs at rows) (end_at bs at) block → Ahead rows at block
ahead_before bs at None block asked ahead =
    ⊎_elim
    (λ is. let here : at ≡ block = rw is at ahead in omega arith)
    (λ other. let later : end_at bs at ≤ block = rw other at ahead in omega arith)
    (cases_Bool (eqb (kind_at bs at) 2))
ahead_before bs at (Some q) block asked ahead =
    ⊎_elim
    (λ is. absurd (no_second bs at asked (eqb-true (kind_at bs at) 2 is)))
    (λ other. rw other at ahead)
    (cases_Bool (eqb (kind_at bs at) 2))

pub walk_ahead :
    (turns : ℕ) (bs : List ℕ) (at : ℕ) (rows : Option ℕ) (block : ℕ) → walk turns bs at rows ≡ Ok block
    → Ahead rows at block
walk_ahead zero bs at rows block ends = ending_ahead at rows block ends
walk_ahead (suc turns) bs at rows block ends =
    ⊎_elim
    (λ within.
    let asked = walks_on turns bs at rows block within ends in
    ahead_before bs at rows block asked
    (walk_ahead turns bs (end_at bs at) (rows_from bs at rows) block (sym (walk_on turns bs at rows within asked) ∙ ends)))
    (λ past. ending_ahead at rows block (sym (walk_all (suc turns) bs at rows past) ∙ ends))
    (cases_lt at (length bs))

-- the row block that a walk has passed ends before the place
abbrev Behind : List ℕ → Option ℕ → ℕ → Type 0
Behind bs rows at = IfSome rows (λ q. end_at bs q ≤ at)

behind_on :
    (bs : List ℕ) (at : ℕ) (rows : Option ℕ) → Behind bs rows at → Behind bs (rows_from bs at rows) (end_at bs at)
behind_on bs at None behind =
    ⊎_elim (λ is. rw is (omega arith)) (λ other. rw other tt) (cases_Bool (eqb (kind_at bs at) 2))
behind_on bs at (Some q) behind =
    ⊎_elim (λ is. rw is (omega arith)) (λ other. rw other (omega arith)) (cases_Bool (eqb (kind_at bs at) 2))

module _ (bs bs' : List ℕ) (block : ℕ) (level : length bs' ≡ length bs)
    (apart : (k : ℕ) → (k < block + 6) ⊎ (end_at bs block ≤ k) → get_or bs' k 0 ≡ get_or bs k 0) where
  -- a record's place is not inside the row block's body
  clear : (at : ℕ) (rows : Option ℕ) → Ahead rows at block → Behind bs rows at → (at ≤ block) ⊎ (end_at bs block ≤ at)
  clear at None ahead behind = inl ahead
  clear at (Some q) ahead behind = inr (rw ahead at behind)

  module _ (at : ℕ) (outside : (at ≤ block) ⊎ (end_at bs block ≤ at)) where
    byte_same : (k : ℕ) → k < 6 → get_or bs' (at + k) 0 ≡ get_or bs (at + k) 0
    byte_same k below = apart (at + k) (⊎_elim (λ before. inl (omega arith)) (λ after. inr (omega arith)) outside)

    pub length_same : length_at bs' at ≡ length_at bs at
    length_same =
        rw (apart at (⊎_elim (λ before. inl (omega arith)) (λ after. inr (omega arith)) outside), byte_same 1 (omega arith), byte_same 2 (omega arith), byte_same 3 (omega arith)) refl

    kind_same : kind_at bs' at ≡ kind_at bs at
    kind_same =
        rw (byte_same 4 (omega arith), apart (at + 4 + 1) (⊎_elim (λ before. inl (omega arith)) (λ after. inr (omega arith)) outside)) refl

    asked_same : (seen : Bool) → ask_record bs' at seen ≡ ask_record bs at seen
    asked_same seen = rw (level, length_same, kind_same) refl

  pub walk_same :
      (turns at : ℕ) (rows : Option ℕ) → Behind bs rows at → walk turns bs at rows ≡ Ok block
      → walk turns bs' at rows ≡ Ok block
  walk_same zero at rows behind ends = ends
  walk_same (suc turns) at rows behind ends =
      ⊎_elim
      (λ within.
      let asked = walks_on turns bs at rows block within ends in
      let outside = clear at rows (walk_ahead (suc turns) bs at rows block ends) behind in
      let more =
      walk_same turns (end_at bs at) (rows_from bs at rows) (behind_on bs at rows behind) (sym (walk_on turns bs at rows within asked) ∙ ends) in
      walk_on turns bs' at rows (rw level within) (asked_same at outside (is_some rows) ∙ asked)
      ∙ rw (length_same at outside, kind_same at outside) more)
      (λ past. walk_all (suc turns) bs' at rows (rw level past) ∙ sym (walk_all (suc turns) bs at rows past) ∙ ends)
      (cases_lt at (length bs))

  pub row_block_same : block_of_rows bs ≡ Ok block → block_of_rows bs' ≡ Ok block
  row_block_same found =
      ⊎_elim
      (λ short.
      ap (λ n. cond (leb n 65536) (walk n bs' 0 None) (Err (refused File 1 0))) level
      ∙ cond-true (leb (length bs) 65536) _ _ short
      ∙ walk_same (length bs) 0 None tt (rw short at found))
      (λ long. let z : ◌≡◌ {A = ℕ} 0 1 = (let f = rw long at found in cc) in absurd (omega arith))
      (cases_Bool (leb (length bs) 65536))
