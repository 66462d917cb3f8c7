use Rattle.std.proofs.Common.{Ok, Err, rules}
use Rattle.scheme.specs.declared.faults.BookFault.TheVariants.{Ends}
use Rattle.scheme.proofs.Asked.{form_law}
use Rattle.scheme.proofs.questions.ask_form.Goals as goal

pub returns-in-Some-clause-law : goal.returns-in-Some-clause-law
returns-in-Some-clause-law g c = form_law _ (Err (Ends c.in-Some.reach)) (search rules)

pub returns-clause-law : goal.returns-clause-law
returns-clause-law g c = form_law _ (Ok tt) (search rules)
