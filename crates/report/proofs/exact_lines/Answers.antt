-- Each verdict has its line, and over the runs behind it; there is room for all. Assumes nothing.
use native.Mathlib.Omega.{arith}
use Rattle.writing.proofs.Writing.{put_more}
use Rattle.writing.proofs.Lengths.{exact_clear_length}
use Rattle.report.proofs.Room.{exact_room}
use Rattle.report.proofs.Giving.{clear_lines}
use Rattle.report.proofs.exact_lines.Goals as goal

pub exact_clear_line-requires : goal.exact_clear_line-requires
exact_clear_line-requires c = omega (arith, exact_clear_length)

pub exact_over_line-next-requires : goal.exact_over_line-next-requires
exact_over_line-next-requires c = let x = c.in-Some.x in
    omega (arith, exact_room x.start x.end x.demand (omega arith) (omega arith) (omega arith))

pub run_lines-requires-clause-at_bound : goal.run_lines-requires-clause-at_bound
run_lines-requires-clause-at_bound c = let x = c.in-Some.x in
    let done = c.exact_over_line-next.ensures in
    (omega (arith, done.ends, exact_room x.start x.end x.demand (omega arith) (omega arith) (omega arith)), omega (arith, done.len, c.requires.at_bound.1))

pub returns-in-None : goal.returns-in-None
returns-in-None c = rw (c.in-None.is, clear_lines) c.exact_clear_line.ensures

pub returns-in-Some : goal.returns-in-Some
returns-in-Some c = rw c.in-Some.is (put_more c.exact_over_line-next.ensures c.run_lines.ensures)
