-- Run by run: the lines of the modules below k are written. Assumes nothing.
use mathlib.Core.Path.{◌≡◌}
use Prim.Native.Nat.{◌+◌, ◌-◌, ◌*◌}
use native.Mathlib.Nat.{zero-add}
use native.Mathlib.Omega.{arith}
use Rattle.writing.specs.Writing.{OneDigitEach}
use Rattle.report.proofs.Runs.{tape_at_lem, run_room, run_more, runs_none}
use Rattle.report.proofs.run_lines.Goals as goal

pub loop-k-init : goal.loop-k-init
loop-k-init c = let a = c.args in
    runs_none a.end a.tape.now a.at a.out.now

pub run_line-next-requires : goal.run_line-next-requires
run_line-next-requires c = let l = c.loop-k in
    let b = c.args.end in
    let tape = c.args.tape.now in
    let size : (l.k * b + b) - l.k * b ≡ b = omega arith in
    rw size (run_room b tape l.k l.invariant c.args.modules c.loop-k-test.true c.requires.modules_bound.0 c.requires.modules_bound.1.short c.requires.at_bound.0 c.requires.at_bound.1, rw zero-add at (tape_at_lem b tape OneDigitEach 0 c.args.modules c.requires.modules_bound.1.digits l.k c.loop-k-test.true))

pub loop-k-preserved : goal.loop-k-preserved
loop-k-preserved c = let l = c.loop-k in
    let b = c.args.end in
    let tape = c.args.tape.now in
    let size : (l.k * b + b) - l.k * b ≡ b = omega arith in
    run_more b tape l.k l.invariant (rw size at c.run_line-next.ensures)
