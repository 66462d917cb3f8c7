use Rattle.scheme_file.specs.Files.{file_bytes}
use Rattle.scheme_file.proofs.Meaning.{found_means}
use Rattle.scheme_file.proofs.files.SchemeFile.bytes.Goals as goal

pub returns-clause-means : goal.returns-clause-means
returns-clause-means c = found_means (file_bytes c.args.self.now) c.args.self.now.found
