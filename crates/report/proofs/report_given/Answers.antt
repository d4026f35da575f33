-- One part after another: the lines of the sheet, and the memory as the exact test leaves it. Assumes nothing.
use Rattle.report.proofs.Giving.{written}
use Rattle.report.proofs.report_given.Goals as goal

pub returns : goal.returns
returns c = let quick = c.quick_part-next.ensures in
    written c.requires c.head_line-head.ensures.0 quick.0 quick.2 c.exact_part.ensures
