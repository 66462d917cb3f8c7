-- What a number written into a row of a file leaves.
use Rattle.std.proofs.Common.{◌≡◌, ℕ, ◌+◌, ◌*◌, ◌^◌, ◌<◌, ◌≤◌, cond, ltb, List, length, sym, refl, ap, ◌∙◌, subst, ⊎_elim, arith}
use Rattle.std.proofs.lemmas.Bool.{cases_lt, cond_below, cond_above}
use Rattle.std.proofs.lemmas.Bool.Decides.{nat_tests}
use Rattle.scheme.specs.Scheme.{changed, over}
use Rattle.scheme.proofs.Writes.{changed_past}
use Rattle.scheme_file.specs.declared.files.SchemeFile.{SchemeFile}
use Rattle.scheme_file.specs.declared.reading.Found.{Found}
use Rattle.scheme_file.specs.Files.{Accepted, FoundIn, besides, file_bytes, file_kept, file_scheme, found_scheme, held_in, held_of, row_patched}
use Rattle.scheme_file.specs.Reading.{Bytes}
use Rattle.scheme_file.specs.Rows.{patched, row_place, scheme_at}
use Rattle.scheme_file.proofs.Besides.{besides_stay}
use Rattle.scheme_file.proofs.Meaning.{rows_of}
use Rattle.scheme_file.proofs.Patches.{length_patched, patched_bytes}
use Rattle.scheme_file.proofs.Relaid.{found_kept}
use Rattle.scheme_file.proofs.RowLists.{length_rows}
use Rattle.scheme_file.proofs.RowWrites.{Field, scheme_after}

-- where there are rows, they lie behind the head and in the bytes
pub held_lie :
    (bs : List ℕ) (rows count reach : ℕ) → reach < held_in bs rows count
    → (12 ≤ rows) × (rows + 12 * held_in bs rows count ≤ length bs)
held_lie bs rows count reach within = (grind (arith, nat_tests), grind (arith, nat_tests))

module _ (field : Field) (bs : List ℕ) (found : Found) (reach x : ℕ) where
  -- the four bytes of the field, and the bytes with the number in them if there is such a reach
  abbrev place : ℕ
  place = row_place found.rows reach + field.offset

  abbrev put : List ℕ
  put = cond (ltb reach (held_of bs found)) (patched bs place x) bs

  holds : reach < held_of bs found → place + 4 ≤ length bs
  holds within = omega (arith, field.small, (held_lie bs found.rows found.count reach within).1)

  -- what holds with the number in them, and without where there is no such reach, holds of what a write leaves
  put_by : (P : List ℕ → Type 0) → (reach < held_of bs found → P (patched bs place x)) → (held_of bs found ≤ reach → P bs) → P put
  put_by P within past =
      ⊎_elim
      (λ lt. subst P (cond_below reach (held_of bs found) (patched bs place x) bs lt) (within lt))
      (λ le. subst P (cond_above reach (held_of bs found) _ bs bs le refl) (past le))
      (cases_lt reach (held_of bs found))

  length_put : length put ≡ length bs
  length_put = put_by (λ b. length b ≡ length bs) (λ within. length_patched bs place x (holds within)) (λ _. refl)

  held_put : held_of put found ≡ held_of bs found
  held_put = rw length_put refl

  bytes_put : Bytes bs → Bytes put
  bytes_put bytes = put_by Bytes (λ within. patched_bytes bs place x (holds within) bytes) (λ _. bytes)

  besides_put : besides put found.rows (held_of bs found) ≡ besides bs found.rows (held_of bs found)
  besides_put =
      put_by
      (λ b. besides b found.rows (held_of bs found) ≡ besides bs found.rows (held_of bs found))
      (λ within. besides_stay bs found.rows (held_of bs found) reach field.offset x within (held_lie bs found.rows found.count reach within).1 field.past_ends field.small)
      (λ _. refl)

  scheme_put : x < 2 ^ 32 → found_scheme put found ≡ over (found_scheme bs found) (changed (field.edit x) (found_scheme bs found).reaches reach)
  scheme_put fits =
      ap (scheme_at put found.rows) held_put
      ∙ put_by
      (λ b. scheme_at b found.rows (held_of bs found) ≡ over (found_scheme bs found) (changed (field.edit x) (found_scheme bs found).reaches reach))
      (λ within.
      let lie = held_lie bs found.rows found.count reach within in
      scheme_after field bs found.rows (held_of bs found) reach x within lie.1 fits lie.0)
      (λ past. ap (over (found_scheme bs found)) (sym (changed_past (field.edit x) (found_scheme bs found).reaches reach (omega (arith, length_rows bs found.rows (held_of bs found))))))

  found_put : FoundIn bs found → FoundIn put found
  found_put ok =
      let all = (rows_of bs found ok ok.contents ok.file).held in
      found_kept bs put found ok (bytes_put ok.bytes) length_put
      (ap (besides put found.rows) (sym all) ∙ besides_put ∙ ap (besides bs found.rows) all)

module _ (field : Field) (f g : SchemeFile) (reach x : ℕ)
    (bytes : file_bytes g ≡ row_patched f reach field.offset x) (found : g.found ≡ f.found) where
  pub file_after : x < 2 ^ 32 → file_scheme g ≡ over (file_scheme f) (changed (field.edit x) (file_scheme f).reaches reach)
  file_after fits =
      ap (found_scheme (file_bytes g)) found
      ∙ ap (λ bs. found_scheme bs f.found) bytes
      ∙ scheme_put field (file_bytes f) f.found reach x fits

  pub file_stays : Accepted f → Accepted g
  file_stays ok =
      let kept : FoundIn (file_bytes g) f.found =
      subst (λ bs. FoundIn bs f.found) (sym bytes) (found_put field (file_bytes f) f.found reach x ok) in
      subst (FoundIn (file_bytes g)) (sym found) kept

  pub file_keeps : g.bytes.ghost_name ≡ f.bytes.ghost_name → file_kept g ≡ file_kept f
  file_keeps loan =
      let put = row_patched f reach field.offset x in
      let long : length put ≡ length (file_bytes f) = length_put field (file_bytes f) f.found reach x in
      let held : held_of put f.found ≡ held_of (file_bytes f) f.found = held_put field (file_bytes f) f.found reach x in
      let rest : besides put f.found.rows (held_of (file_bytes f) f.found) ≡ besides (file_bytes f) f.found.rows (held_of (file_bytes f) f.found) =
      besides_put field (file_bytes f) f.found reach x in
      cc
