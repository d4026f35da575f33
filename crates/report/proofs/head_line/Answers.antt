-- The line of the sheet is short. Assumes nothing.
use native.Mathlib.Omega.{arith}
use Rattle.report.proofs.Room.{sheet_room}
use Rattle.report.proofs.head_line.Goals as goal

pub sheet_line-requires : goal.sheet_line-requires
sheet_line-requires c = let a = c.args.judged in
    omega (arith, c.requires, sheet_room a.modules a.modes a.tasks a.switches a.horizon (omega arith) (omega arith) (omega arith) (omega arith) (omega arith))

pub returns : goal.returns
returns c = let a = c.args.judged in
    let done = c.sheet_line.ensures in
    (done, omega (arith, done.ends, sheet_room a.modules a.modes a.tasks a.switches a.horizon (omega arith) (omega arith) (omega arith) (omega arith) (omega arith)))
