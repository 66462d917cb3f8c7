use Rattle.scheme_file.proofs.Meaning.{found_means}
use Rattle.scheme_file.proofs.files.SchemeFile.lend.Goals as goal

pub returns-clause-means : goal.returns-clause-means
returns-clause-means c = found_means c.args.bytes.now c.args.found
