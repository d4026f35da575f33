-- A report that is written stays as it is; where it is refused, that is said, or its line is written. Assumes nothing.
use Rattle.printing.proofs.Lines.{printed_counted, written_printed, refused_printed}
use Rattle.printing.proofs.put_lines.Goals as goal

pub returns-in-Err-clause-printed : goal.returns-in-Err-clause-printed
returns-in-Err-clause-printed c = refused_printed _ _ _ _ _ _ _ (rw c.in-Err.is at c.write_report.ensures) c.put_refusal.ensures

pub returns-in-Ok : goal.returns-in-Ok
returns-in-Ok c = let reported = rw c.in-Ok.is at c.write_report.ensures in
    let printed = written_printed _ _ _ _ _ _ reported in
    record { printed = printed; counted = printed_counted printed }
