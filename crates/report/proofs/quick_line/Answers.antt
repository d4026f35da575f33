-- Each verdict has its line, and none is longer than there is room. Assumes nothing.
use native.Mathlib.Omega.{arith}
use Rattle.writing.proofs.Lengths.{quick_clear_length}
use Rattle.report.proofs.Room.{quick_room, quick_fits}
use Rattle.report.proofs.quick_line.Goals as goal

pub quick_clear_line-requires : goal.quick_clear_line-requires
quick_clear_line-requires c = omega (arith, quick_clear_length)

pub quick_over_line-requires : goal.quick_over_line-requires
quick_over_line-requires c = quick_fits (omega arith) (omega arith) (omega arith) (omega arith)

pub returns-in-None : goal.returns-in-None
returns-in-None c = let done = c.quick_clear_line.ensures in
    (rw c.in-None.is done, omega (arith, done.ends, quick_clear_length))

pub returns-in-Some : goal.returns-in-Some
returns-in-Some c = let x = c.in-Some.x in
    let done = c.quick_over_line.ensures in
    (rw c.in-Some.is done, omega (arith, done.ends, quick_room x.length x.demand (omega arith) (omega arith)))
