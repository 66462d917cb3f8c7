use Rattle.std.proofs.Common.{◌/◌, sym, refl, ap}
use Rattle.std.proofs.lemmas.Result.{err_from_is_err_and}
use Rattle.scheme_file.proofs.Meaning.{found_means, refused_no_file, walk_found}
use Rattle.scheme_file.proofs.reading.read.Goals as goal

pub returns-in_err-block-clause-means : goal.returns-in_err-block-clause-means
returns-in_err-block-clause-means c =
    let p = err_from_is_err_and c.from_residual.result c.from_residual.ensures.1 in
    rw p.1 (refused_no_file c.args.bytes.now _ (sym c.in_err-block.ensures.answer))

pub returns-clause-accepted : goal.returns-clause-accepted
returns-clause-accepted c =
    walk_found c.args.bytes.now _ c.in_ok-block.block c.row_block.ensures.bytes (sym c.in_ok-block.ensures.answer) refl (ap (λ n. n / 12) c.get_u32.ensures)

pub returns-clause-means : goal.returns-clause-means
returns-clause-means c =
    found_means c.args.bytes.now _
    (walk_found c.args.bytes.now _ c.in_ok-block.block c.row_block.ensures.bytes (sym c.in_ok-block.ensures.answer) refl (ap (λ n. n / 12) c.get_u32.ensures))
