-- Module by module: the tapes of the modules below k are written, and the bytes from k × b on are as they were. Assumes nothing.
use Prim.Native.Nat.{◌<◌}
use native.Mathlib.Nat.{mul-le-mul_right}
use native.Mathlib.Omega.{arith}
use Rattle.query.proofs.Meeting.{stays_more}
use Rattle.witness.proofs.Tapes.{written_more, witness_written}
use Rattle.witness.proofs.write_tapes.Goals as goal

pub write_module_tape-requires : goal.write_module_tape-requires
write_module_tape-requires c = let l = c.loop-k in
    let one : l.k < c.args.table.now.modules = omega arith in
    record { k_in_bounds = omega arith; work_numbers_in_bounds = (omega (arith, l.invariant.1.len), c.requires.1, omega (arith, mul-le-mul_right c.args.b one, l.invariant.0.stays.len)) }

pub loop-k-preserved : goal.loop-k-preserved
loop-k-preserved c = let l = c.loop-k in
    let new = c.write_module_tape.ensures in
    (written_more (omega (arith, mul-le-mul_right c.args.b c.loop-k-test.true)) l.invariant.0 new.0, stays_more l.invariant.1 new.1)

pub returns : goal.returns
returns c = (witness_written (omega arith) c.loop-k.invariant.0, c.loop-k.invariant.1)
