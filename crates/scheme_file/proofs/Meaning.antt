-- An accepted file is laid out as its records, and means the register that it is used as.
use Rattle.std.proofs.Common.{◌≡◌, ℕ, ◌+◌, ◌*◌, ◌/◌, ◌≤◌, leb, List, length, Ok, Err, sym, ap, ◌∙◌, arith}
use Rattle.std.proofs.lemmas.Bool.{and_from, cond-true, le-leb}
use Rattle.scheme.specs.declared.faults.Refusal.{Refusal}
use Rattle.scheme_file.specs.declared.reading.Found.{Found}
use Rattle.scheme_file.specs.Asked.{length_at, block_of_rows}
use Rattle.scheme_file.specs.Files.{FoundIn, found_scheme, held_of}
use Rattle.scheme_file.specs.Layout.{Contents, FileOf, Means, NoFile, contents_scheme, front_bytes, rows_begin}
use Rattle.scheme_file.specs.Reading.{Bytes}
use Rattle.scheme_file.specs.Rows.{scheme_at}
use Rattle.scheme_file.proofs.Cut.{contents}
use Rattle.scheme_file.proofs.Laid.{laid_count, laid_found, laid_lies, laid_scheme, laid_size}

held_all :
    (bs : List ℕ) (found : Found) → 12 ≤ found.rows → found.rows + 12 * found.count ≤ length bs
    → held_of bs found ≡ found.count
held_all bs found behind inside =
    cond-true _ found.count 0
    (and_from
    (leb 12 found.rows)
    (leb (found.rows + 12 * found.count) (length bs))
    (le-leb 12 found.rows behind)
    (le-leb (found.rows + 12 * found.count) (length bs) inside))

same_block : (bs : List ℕ) (p q : ℕ) → block_of_rows bs ≡ Ok p → block_of_rows bs ≡ Ok q → p ≡ q
same_block bs p q a b = cc

-- where the rows are in a file that is laid out from these contents
pub record RowsOf (bs : List ℕ) (found : Found) (c : Contents) : Type 0 where
  pub begin : found.rows ≡ rows_begin c
  pub count : found.count ≡ length c.reaches
  pub lie : found.rows + 12 * found.count ≤ length bs
  pub held : held_of bs found ≡ found.count

-- whatever contents a file is laid out from, its rows begin at one place and are so many
same_rows :
    (bs : List ℕ) (c d : Contents) → FileOf bs c → FileOf bs d
    → (length (front_bytes c) ≡ length (front_bytes d)) × (length c.reaches ≡ length d.reaches)
same_rows bs c d file other =
    let front = same_block bs _ _ (laid_found bs c file) (laid_found bs d other) in (
      front,
      sym (laid_count bs c file) ∙ ap (λ p. length_at bs p / 12) front ∙ laid_count bs d other,
    )

module _ (bs : List ℕ) (found : Found) (ok : FoundIn bs found) (c : Contents) (file : FileOf bs c) where
  pub rows_of : RowsOf bs found c
  rows_of =
      let same = same_rows bs ok.contents c ok.file file in
      let begin : found.rows ≡ rows_begin c = ok.begin ∙ ap (λ n. n + 6) same.0 in
      let count : found.count ≡ length c.reaches = ok.count ∙ same.1 in
      let lies = laid_lies bs c file in
      let inside : found.rows + 12 * found.count ≤ length bs = omega (arith, laid_count bs c file, lies.1) in
      record {
        begin = begin;
        count = count;
        lie = inside;
        held = held_all bs found (omega (arith, lies.0)) inside;
      }

  scheme_of_contents : contents_scheme c ≡ found_scheme bs found
  scheme_of_contents =
      let n : length_at bs (length (front_bytes c)) / 12 ≡ held_of bs found =
      laid_count bs c file ∙ sym (rows_of.held ∙ rows_of.count) in
      sym (laid_scheme bs c file)
      ∙ ap (scheme_at bs (rows_begin c)) n
      ∙ ap (λ p. scheme_at bs p (held_of bs found)) (sym rows_of.begin)

pub found_means : (bs : List ℕ) (found : Found) → FoundIn bs found → Means bs (found_scheme bs found)
found_means bs found ok =
    record { contents = ok.contents; file = ok.file; only = scheme_of_contents bs found ok }

-- what a walk finds is accepted
pub walk_found :
    (bs : List ℕ) (found : Found) (block : ℕ) → Bytes bs → block_of_rows bs ≡ Ok block → found.rows ≡ block + 6
    → found.count ≡ length_at bs block / 12 → FoundIn bs found
walk_found bs found block bytes walked begin count =
    let made = contents bs bytes block walked in
    let front : block ≡ length (front_bytes made.0) = same_block bs _ _ walked (laid_found bs made.0 made.1) in
    record {
      contents = made.0;
      file = made.1;
      begin = begin ∙ ap (λ p. p + 6) front;
      count = count ∙ ap (λ p. length_at bs p / 12) front ∙ laid_count bs made.0 made.1;
      bytes = bytes;
    }

-- the records answer every question with yes, and the rows are all of the block that they have
pub record Walked (bs : List ℕ) (rows : Found) : Type 0 where
  pub block : ℕ
  pub found : block_of_rows bs ≡ Ok block
  pub begin : rows.rows ≡ block + 6
  pub whole : 12 * rows.count ≡ length_at bs block
  pub bytes : Bytes bs

-- Rows are where they are said to have been found exactly if a walk over the records finds them so.
module _ (bs : List ℕ) (rows : Found) where
  pub found_walked : FoundIn bs rows → Walked bs rows
  found_walked ok =
      record {
        block = length (front_bytes ok.contents);
        found = laid_found bs ok.contents ok.file;
        begin = ok.begin;
        whole = ap (λ n. 12 * n) ok.count ∙ sym (laid_size bs ok.contents ok.file);
        bytes = ok.bytes;
      }

  pub walked_found : Walked bs rows → FoundIn bs rows
  walked_found ok = walk_found bs rows ok.block ok.bytes ok.found ok.begin (omega (arith, ok.whole))

pub refused_no_file : (bs : List ℕ) (refusal : Refusal) → block_of_rows bs ≡ Err refusal → NoFile bs
refused_no_file bs refusal refused c file =
    let found = laid_found bs c file in
    let z : ◌≡◌ {A = ℕ} 0 1 = cc in
    omega arith
