use Rattle.std.proofs.Common.{Ok, Err, rules}
use Rattle.scheme.specs.declared.faults.CallFault.TheVariants.{NoSide}
use Rattle.scheme.proofs.Sides.{checked}
use Rattle.scheme.proofs.review.check.Goals as goal

pub returns-then-not-is_side-clause-law : goal.returns-then-not-is_side-clause-law
returns-then-not-is_side-clause-law g c = (checked (g.R.Register.scheme c.args.register.now) c.args.marks.now (Err NoSide) (search rules)).law

pub returns-then-not-is_side-clause-accepts : goal.returns-then-not-is_side-clause-accepts
returns-then-not-is_side-clause-accepts g c = (checked (g.R.Register.scheme c.args.register.now) c.args.marks.now (Err NoSide) (search rules)).accepts

pub returns-clause-accepts : goal.returns-clause-accepts
returns-clause-accepts g c = (checked (g.R.Register.scheme c.args.register.now) c.args.marks.now (Ok tt) (search rules)).accepts

pub returns-clause-greatest : goal.returns-clause-greatest
returns-clause-greatest g c = (checked (g.R.Register.scheme c.args.register.now) c.args.marks.now (Ok tt) (search rules)).greatest
