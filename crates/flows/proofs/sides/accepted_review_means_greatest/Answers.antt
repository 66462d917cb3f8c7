use Rattle.scheme.proofs.Reviews.{accepted_best}
use Rattle.flows.proofs.sides.accepted_review_means_greatest.Goals as goal

pub returns : goal.returns
returns c = accepted_best
