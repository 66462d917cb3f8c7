-- A file's bytes are what it keeps and the rows that it holds: other bytes of the same length that agree with them
-- besides limits and flows are the file of the same contents, with the reaches that stand in them.
use Rattle.std.proofs.Common.{◌≡◌, ℕ, ◌+◌, ◌*◌, ◌≤◌, List, ◌∷◌, ◌++◌, map, length, take, drop, sym, ap, ◌∙◌, subst, arith}
use Rattle.std.specs.List.{flat_map}
use Rattle.std.proofs.lemmas.List.{append_assoc, drop_at, length-append, take-append-drop, take_at}
use Rattle.std.proofs.lemmas.Grind.{flat_map-append}
use Rattle.scheme_file.specs.declared.reading.Found.{Found}
use Rattle.scheme_file.specs.Files.{FoundIn, besides}
use Rattle.scheme_file.specs.Layout.{Contents, FileOf, front_bytes, note, record_bytes, records, row_bytes, rows, with_reaches}
use Rattle.scheme_file.specs.Numbers.{two, four}
use Rattle.scheme_file.specs.Reading.{Bytes}
use Rattle.scheme_file.specs.Rows.{rows_at}
use Rattle.scheme_file.proofs.Besides.{same_before, same_behind}
use Rattle.scheme_file.proofs.Cut.{rows_fit, rows_from_lem}
use Rattle.scheme_file.proofs.Laid.{head_bytes, laid_block, length_rows_bytes, notes_bytes}
use Rattle.scheme_file.proofs.Meaning.{RowsOf, rows_of}
use Rattle.scheme_file.proofs.RowLists.{length_rows}

-- the length and the kind of a block of rows, by the length of its body
abbrev block_header : ℕ → List ℕ
block_header size = four size ++ two 2

-- a byte string cut at its first row and behind its last
abbrev Cut : List ℕ → Contents → ℕ → Type 0
Cut bs c size = bs ≡ (front_bytes c ++ block_header size) ++ (flat_map row_bytes c.reaches ++ notes_bytes c.after)

cut_laid : (bs : List ℕ) (c : Contents) → FileOf bs c → Cut bs c (12 * length c.reaches)
cut_laid bs c file =
    let body = flat_map row_bytes c.reaches in
    laid_block bs c file
    ∙ sym (append_assoc (front_bytes c) (block_header (length body)) (body ++ notes_bytes c.after))
    ∙ ap
    (λ n. (front_bytes c ++ block_header n) ++ (body ++ notes_bytes c.after))
    (length_rows_bytes c.reaches)

laid_cut : (bs : List ℕ) (c : Contents) → Cut bs c (12 * length c.reaches) → bs ≡ flat_map record_bytes (records c)
laid_cut bs c cut =
    let body = flat_map row_bytes c.reaches in
    let block = record_bytes (rows c.reaches) ++ notes_bytes c.after in
    cut
    ∙ ap
    (λ n. (front_bytes c ++ block_header n) ++ (body ++ notes_bytes c.after))
    (sym (length_rows_bytes c.reaches))
    ∙ append_assoc (front_bytes c) (block_header (length body)) (body ++ notes_bytes c.after)
    ∙ append_assoc (head_bytes c) (notes_bytes c.before) block
    ∙ ap
    (λ l. head_bytes c ++ l)
    (sym (flat_map-append record_bytes (map note c.before) (rows c.reaches ∷ map note c.after)))

module _ (bs cs : List ℕ) (found : Found) (c : Contents) (file : FileOf bs c) (place : RowsOf bs found c)
    (bytes : Bytes cs) (level : length cs ≡ length bs)
    (same : besides cs found.rows found.count ≡ besides bs found.rows found.count) where
  first : List ℕ
  first = front_bytes c ++ block_header (12 * length c.reaches)

  length_first : length first ≡ found.rows
  unfolding first
  length_first = length-append (front_bytes c) (block_header (12 * length c.reaches)) ∙ sym place.begin

  before : take found.rows cs ≡ first
  unfolding first
  before =
      same_before bs cs found.rows found.count level place.lie same
      ∙ ap (take found.rows) (cut_laid bs c file)
      ∙ take_at first (flat_map row_bytes c.reaches ++ notes_bytes c.after) found.rows length_first

  behind : drop (found.rows + 12 * found.count) cs ≡ notes_bytes c.after
  unfolding first
  behind =
      let body = flat_map row_bytes c.reaches in
      let long : length (first ++ body) ≡ found.rows + 12 * found.count =
      length-append first body ∙ omega (arith, length_first, length_rows_bytes c.reaches, place.count) in
      same_behind bs cs found.rows found.count level place.lie same
      ∙ ap (drop (found.rows + 12 * found.count)) (cut_laid bs c file ∙ sym (append_assoc first body (notes_bytes c.after)))
      ∙ drop_at (first ++ body) (notes_bytes c.after) (found.rows + 12 * found.count) long

  pub relaid : FileOf cs (with_reaches c (rows_at cs found.rows found.count))
  unfolding first
  relaid =
      let reaches = rows_at cs found.rows found.count in
      let end = found.rows + 12 * found.count in
      let n : length reaches ≡ length c.reaches = length_rows cs found.rows found.count ∙ place.count in
      let rest : drop found.rows cs ≡ flat_map row_bytes reaches ++ drop end cs =
      ap (λ i. drop i cs) (omega arith)
      ∙ rows_from_lem cs bytes found.rows 0 found.count end (omega arith) (omega (arith, place.lie)) in
      let cut : Cut cs (with_reaches c reaches) (12 * length c.reaches) =
      sym (take-append-drop found.rows cs)
      ∙ ap (λ l. l ++ drop found.rows cs) before
      ∙ ap (λ l. first ++ l) (rest ∙ ap (λ l. flat_map row_bytes reaches ++ l) behind) in
      record {
        laid = laid_cut cs (with_reaches c reaches) (subst (λ m. Cut cs (with_reaches c reaches) (12 * m)) (sym n) cut);
        short = subst (λ m. m ≤ 65536) (sym level) file.short;
        few = subst (λ m. m ≤ 4096) (sym n) file.few;
        points_fit = file.points_fit;
        inlet_fits = file.inlet_fits;
        outlet_fits = file.outlet_fits;
        rows_fit = rows_fit cs bytes found.rows 0 found.count;
      }

-- bytes that keep what an accepted file keeps are accepted
pub found_kept :
    (bs cs : List ℕ) (found : Found) → FoundIn bs found → Bytes cs → length cs ≡ length bs
    → besides cs found.rows found.count ≡ besides bs found.rows found.count → FoundIn cs found
found_kept bs cs found ok bytes level same =
    let place = rows_of bs found ok ok.contents ok.file in
    record {
      contents = with_reaches ok.contents (rows_at cs found.rows found.count);
      file = relaid bs cs found ok.contents ok.file place bytes level same;
      begin = ok.begin;
      count = sym (length_rows cs found.rows found.count);
      bytes = bytes;
    }
