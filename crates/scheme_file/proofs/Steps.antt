-- Going through the records of a file while reading it.
use Rattle.std.proofs.Common.{◌≡◌, ℕ, ◌≤◌, ◌==◌, ◌||◌, Bor, List, length, is_some, Some, Ok, Err, None, Option, sym, refl, ap, ◌∙◌, subst, ⊎_elim, arith}
use Rattle.std.proofs.lemmas.Bool.{cases_Bool, eq-eqb, ne_eqb}
use Rattle.scheme.specs.declared.faults.FileFault.{FileFault}
use Rattle.scheme.specs.Refusals.{file_refusal}
use Rattle.scheme_file.specs.declared.parts.Part.{Part}
use Rattle.scheme_file.specs.declared.parts.Part.TheVariants.{Head, Rows, Note}
use Rattle.scheme_file.specs.declared.walking.Parts.{Parts}
use Rattle.scheme_file.specs.Asked.{ask_record, block_of_rows, end_at, ending, kind_at, rows_from}
use Rattle.scheme_file.specs.Parts.{PartAt}
use Rattle.scheme_file.specs.Walking.{Step}
use Rattle.scheme_file.proofs.Walks.{Walking, taken, walking_all, walking_more, walking_refused}

rows_from_rows :
    (bs : List ℕ) (at : ℕ) (rows : Option ℕ) (place : ℕ) (body : Bor (List ℕ)) → PartAt bs at (Rows place body)
    → rows_from bs at rows ≡ Some place
rows_from_rows bs at rows place body p = rw (eq-eqb (kind_at bs at) 2 (sym p.kind)) (ap Some (sym p.place))

rows_from_other :
    (bs : List ℕ) (at : ℕ) (rows : Option ℕ) (part : Part) → PartAt bs at part
    → ((place : ℕ) (body : Bor (List ℕ)) → part ≡ Rows place body → ⊥) → rows_from bs at rows ≡ rows
rows_from_other bs at rows (Head a b) p other = rw (ne_eqb (kind_at bs at) 2 (λ e. omega (arith, p.kind))) refl
rows_from_other bs at rows (Rows a b) p other = absurd (other a b refl)
rows_from_other bs at rows (Note a b) p other = rw (ne_eqb (kind_at bs at) 2 (λ e. omega (arith, p.kind))) refl

seen_from : (bs : List ℕ) (at : ℕ) (rows : Option ℕ) → is_some (rows_from bs at rows) ≡ (is_some rows || kind_at bs at == 2)
seen_from bs at None = ⊎_elim (λ is. rw is refl) (λ other. rw other refl) (cases_Bool (kind_at bs at == 2))
seen_from bs at (Some place) = ⊎_elim (λ is. rw is refl) (λ other. rw other refl) (cases_Bool (kind_at bs at == 2))

-- the records that are still to come are those of the walk over the file, on its way
pub record Going (bs : List ℕ) (parts : Parts) (rows : Option ℕ) : Type 0 where
  pub bytes : parts.bytes.now ≡ bs
  pub seen : parts.rows_seen ≡ is_some rows
  pub inside : parts.at ≤ length bs
  pub walking : Walking bs parts.at rows

module _ (bs : List ℕ) (s t : Parts) (rows : Option ℕ) (going : Going bs s rows) (short : length bs ≤ 65536) where
  pub going_refused : (fault : FileFault) → Step s (Err fault) t → block_of_rows bs ≡ Err (file_refusal fault)
  going_refused fault step =
      let asked : ask_record bs s.at (is_some rows) ≡ Some (file_refusal fault) =
      sym (step.fault ∙ ap (λ b. ask_record b s.at s.rows_seen) going.bytes ∙ ap (ask_record bs s.at) going.seen) in
      walking_refused bs s.at rows going.walking short _ (omega (arith, step.within, ap length going.bytes)) asked

  going_more : (part : Part) → Step s (Ok part) t → Going bs t (rows_from bs s.at rows)
  going_more part step =
      let asked : ask_record bs s.at (is_some rows) ≡ None =
      sym (step.fault ∙ ap (λ b. ask_record b s.at s.rows_seen) going.bytes ∙ ap (ask_record bs s.at) going.seen) in
      let (_, on, seen) = step.on in
      let to : t.at ≡ end_at bs s.at = on ∙ ap (λ b. end_at b s.at) going.bytes in
      record {
        bytes = step.same ∙ going.bytes;
        seen = seen ∙ ap (λ b. s.rows_seen || kind_at b s.at == 2) going.bytes ∙ ap (λ b. b || kind_at bs s.at == 2) going.seen ∙ sym (seen_from bs s.at rows);
        inside = omega (arith, to, (taken bs s.at (is_some rows) asked).inside);
        walking = subst (λ at. Walking bs at (rows_from bs s.at rows)) (sym to) (walking_more bs s.at rows going.walking (omega (arith, step.within, ap length going.bytes)) asked);
      }

  here : (part : Part) → Step s (Ok part) t → PartAt bs s.at part
  here part step = let (at, _, _) = step.on in subst (λ b. PartAt b s.at part) going.bytes at

  -- past a row block, whose place is known from there on, and past another record
  pub going_rows : (place : ℕ) (body : Bor (List ℕ)) → Step s (Ok (Rows place body)) t → Going bs t (Some place)
  going_rows place body step =
      subst (Going bs t) (rows_from_rows bs s.at rows place body (here (Rows place body) step)) (going_more (Rows place body) step)

  pub going_other :
      (part : Part) → ((place : ℕ) (body : Bor (List ℕ)) → part ≡ Rows place body → ⊥) → Step s (Ok part) t
      → Going bs t rows
  going_other part other step =
      subst (Going bs t) (rows_from_other bs s.at rows part (here part step) other) (going_more part step)

  pub going_all : length s.bytes.now ≤ s.at → block_of_rows bs ≡ ending (length bs) rows
  going_all past =
      let here : s.at ≡ length bs = omega (arith, going.inside, ap length going.bytes) in
      walking_all bs s.at rows going.walking short (omega arith) ∙ ap (λ n. ending n rows) here
