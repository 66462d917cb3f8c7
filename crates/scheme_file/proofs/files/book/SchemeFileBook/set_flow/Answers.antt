use Rattle.scheme_file.proofs.FileWrites.{file_after, file_keeps, file_stays}
use Rattle.scheme_file.proofs.RowWrites.{flow_field}
use Rattle.scheme_file.proofs.files.book.SchemeFileBook.set_flow.Goals as goal

pub returns-clause-after : goal.returns-clause-after
returns-clause-after c =
    let e = c.put.ensures in
    file_after flow_field c.args.self.now c.put.new.self c.args.reach c.args.flow e.bytes e.found c.ranges.flow.fits

pub returns-clause-kept : goal.returns-clause-kept
returns-clause-kept c =
    let e = c.put.ensures in
    file_keeps flow_field c.args.self.now c.put.new.self c.args.reach c.args.flow e.bytes e.found e.loan

pub returns-clause-stays : goal.returns-clause-stays
returns-clause-stays c =
    let e = c.put.ensures in
    file_stays flow_field c.args.self.now c.put.new.self c.args.reach c.args.flow e.bytes e.found
