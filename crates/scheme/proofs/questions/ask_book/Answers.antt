use Rattle.std.proofs.Common.{Ok, Err, rules}
use Rattle.scheme.specs.declared.faults.BookFault.TheVariants.{Over, Unbalanced}
use Rattle.scheme.proofs.Asked.{book_law}
use Rattle.scheme.proofs.questions.ask_book.Goals as goal

pub returns-in-Some-clause-law : goal.returns-in-Some-clause-law
returns-in-Some-clause-law g c = book_law _ (Err (Over c.in-Some.reach)) (search rules)

pub returns-in-Some-first_unbalanced-clause-law : goal.returns-in-Some-first_unbalanced-clause-law
returns-in-Some-first_unbalanced-clause-law g c = book_law _ (Err (Unbalanced c.in-Some-first_unbalanced.point)) (search rules)

pub returns-clause-law : goal.returns-clause-law
returns-clause-law g c = book_law _ (Ok tt) (search rules)
