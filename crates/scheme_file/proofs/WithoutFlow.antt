-- A file that has kept what it keeps, and whose register has lost its flows, is the file of the same contents without
-- flow.
use Rattle.std.proofs.Common.{◌≡◌, ℕ, List, map, length, sym, ap, ◌∙◌, subst}
use Rattle.scheme.specs.Scheme.{emptied, flowing}
use Rattle.scheme_file.specs.declared.files.SchemeFile.{SchemeFile}
use Rattle.scheme_file.specs.declared.reading.Found.{Found}
use Rattle.scheme_file.specs.Asked.{fault_of}
use Rattle.scheme_file.specs.Clearing.{Cleared, without_flow}
use Rattle.scheme_file.specs.Files.{FoundIn, besides, file_bytes, file_kept, file_scheme, found_scheme, held_of}
use Rattle.scheme_file.specs.Layout.{Contents, FileOf, with_reaches}
use Rattle.scheme_file.specs.Reading.{Bytes}
use Rattle.scheme_file.specs.Rows.{rows_at}
use Rattle.scheme_file.proofs.Laid.{laid_found, laid_rows}
use Rattle.scheme_file.proofs.Meaning.{rows_of}
use Rattle.scheme_file.proofs.Relaid.{relaid}

module _ (bs cs : List ℕ) (found : Found) (ok : FoundIn bs found) (bytes : Bytes cs)
    (level : length cs ≡ length bs)
    (same : besides cs found.rows (held_of cs found) ≡ besides bs found.rows (held_of bs found))
    (still : found_scheme cs found ≡ emptied (found_scheme bs found)) where
  file_without_flow : (c : Contents) → FileOf bs c → FileOf cs (without_flow c)
  file_without_flow c file =
      let place = rows_of bs found ok c file in
      let held : held_of cs found ≡ found.count = rw level place.held in
      let rest : besides cs found.rows found.count ≡ besides bs found.rows found.count =
      ap (besides cs found.rows) (sym held) ∙ same ∙ ap (besides bs found.rows) place.held in
      let had : rows_at bs found.rows (held_of bs found) ≡ c.reaches =
      ap (rows_at bs found.rows) (place.held ∙ place.count)
      ∙ ap (λ p. rows_at bs p (length c.reaches)) place.begin
      ∙ laid_rows bs c file in
      let has : rows_at cs found.rows found.count ≡ map (flowing 0) c.reaches =
      ap (rows_at cs found.rows) (sym held) ∙ ap (λ s. s.reaches) still ∙ ap (map (flowing 0)) had in
      subst (λ rs. FileOf cs (with_reaches c rs)) has (relaid bs cs found c file place bytes level rest)

  cleared : Cleared bs cs
  cleared =
      let now = file_without_flow ok.contents ok.file in
      record {
        contents = ok.contents;
        was = ok.file;
        is = file_without_flow;
        accepted = ap fault_of (laid_found cs (without_flow ok.contents) now);
      }

-- what two files with the same kept have in common
found_of :
    (rows rows' count count' : ℕ) → rows ≡ rows' → count ≡ count'
    → ◌≡◌ {A = Found} (record { rows = rows; count = count }) (record { rows = rows'; count = count' })
found_of rows rows' count count' er ec = cc

module _ (f g : SchemeFile) (kept : file_kept g ≡ file_kept f) where
  numbers : (file_kept g).numbers ≡ (file_kept f).numbers
  numbers = ap (λ k. k.numbers) kept

  same_found : g.found ≡ f.found
  same_found =
      let all = numbers in
      let rows : g.found.rows ≡ f.found.rows = cc in
      let count : g.found.count ≡ f.found.count = cc in
      found_of _ _ _ _ rows count

  same_length : length (file_bytes g) ≡ length (file_bytes f)
  same_length = let all = numbers in cc

  same_besides :
      besides (file_bytes g) g.found.rows (held_of (file_bytes g) g.found)
      ≡ besides (file_bytes f) f.found.rows (held_of (file_bytes f) f.found)
  same_besides = let all = numbers in cc

  pub same_loan : g.bytes.ghost_name ≡ f.bytes.ghost_name
  same_loan = let all : (file_kept g).loans ≡ (file_kept f).loans = ap (λ k. k.loans) kept in cc

-- A loan of a file's bytes: `f` as it was lent, `g` as it is at the end, and the bytes that the lender has then.
pub cleared_loan :
    (bs cs : List ℕ) (found : Found) (f g : SchemeFile) → FoundIn bs found → file_bytes f ≡ bs → f.found ≡ found
    → file_kept g ≡ file_kept f → file_scheme g ≡ emptied (file_scheme f) → cs ≡ file_bytes g → Bytes cs → Cleared bs cs
cleared_loan bs cs found f g ok lent rows kept still given bytes =
    let at : g.found ≡ found = same_found f g kept ∙ rows in
    cleared bs cs found ok bytes
    (ap length given ∙ same_length f g kept ∙ ap length lent)
    (ap (λ b. besides b found.rows (held_of b found)) given
    ∙ ap (λ l. besides (file_bytes g) l.rows (held_of (file_bytes g) l)) (sym at)
    ∙ same_besides f g kept
    ∙ ap (λ l. besides (file_bytes f) l.rows (held_of (file_bytes f) l)) rows
    ∙ ap (λ b. besides b found.rows (held_of b found)) lent)
    (ap (λ b. found_scheme b found) given
    ∙ ap (found_scheme (file_bytes g)) (sym at)
    ∙ still
    ∙ ap (λ l. emptied (found_scheme (file_bytes f) l)) rows
    ∙ ap (λ b. emptied (found_scheme b found)) lent)
