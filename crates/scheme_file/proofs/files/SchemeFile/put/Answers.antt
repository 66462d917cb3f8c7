use Rattle.std.proofs.Common.{◌≡◌, ◌+◌, ◌<◌, sym, refl, ap, ◌∙◌, arith}
use Rattle.std.proofs.lemmas.Bool.{cond_below}
use Rattle.scheme.proofs.Writes.{unlisted_past, unlisted_within}
use Rattle.scheme_file.specs.Rows.{patched, row_place}
use Rattle.scheme_file.specs.Files.{file_scheme, file_bytes, held_rows, view_rows}
use Rattle.scheme_file.proofs.RowLists.{length_rows}
use Rattle.scheme_file.proofs.Patches.{patched_part}
use Rattle.scheme_file.proofs.files.SchemeFile.put.Goals as goal

pub returns-in_default-clause-answer : goal.returns-in_default-clause-answer
returns-in_default-clause-answer c =
    let f = c.args.self.now in
    let same : view_rows c.view.result ≡ held_rows f = cc in
    sym (unlisted_past (file_scheme f) _ (omega (arith, same, c.in_default.ensures.place, length_rows (file_bytes f) f.found.rows (held_rows f))))

pub returns-clause-answer : goal.returns-clause-answer
returns-clause-answer c =
    let f = c.args.self.now in
    let same : view_rows c.view.result ≡ held_rows f = cc in
    sym (unlisted_within (file_scheme f) _ (omega (arith, same, c.in-Some.ensures.place.0, length_rows (file_bytes f) f.found.rows (held_rows f))))

pub returns-clause-bytes : goal.returns-clause-bytes
returns-clause-bytes c =
    let f = c.args.self.now in
    let same : view_rows c.view.result ≡ held_rows f = cc in
    let within : c.args.reach < held_rows f = omega (arith, same, c.in-Some.ensures.place.0) in
    let at : c.in-Some.row ≡ row_place f.found.rows c.args.reach =
    c.in-Some.ensures.place.1 ∙ ap (λ v. row_place v.rows c.args.reach) c.view.ensures.rows in
    patched_part (file_bytes f) _ _ c.args.x _ refl c.put_u32.ensures
    ∙ ap (λ row. patched (file_bytes f) (row + c.args.offset) c.args.x) at
    ∙ cond_below c.args.reach (held_rows f) _ _ within
