-- The rows and the tasks of the sheet tell the module to the writer of its tape, which has room from byte k × b on. Assumes nothing.
use Prim.Native.Nat.{◌*◌}
use native.Mathlib.Omega.{arith}
use lib.ListN.{length-take, length-drop}
use Rattle.model.specs.Limits.{work_numbers}
use Rattle.modules.proofs.Telling.{rule, tells}
use Rattle.query.proofs.Meeting.{stays_by}
use Rattle.witness.proofs.Tapes.{written_at}
use Rattle.witness.proofs.write_module_tape.Goals as goal

pub write_tape-requires : goal.write_tape-requires
write_tape-requires c = (tells c.args.table.now.sheet.bytes.now c.args.table.now.sheet.accepted c.args.k c.requires.k_in_bounds c.engine_of-engine.ensures, c.requires.work_numbers_in_bounds.1, simp (length-take, length-drop) (omega arith), c.requires.work_numbers_in_bounds.0)

pub returns : goal.returns
returns c = let told = c.engine_of-engine.ensures in
    let new = c.write_tape.ensures in
    (written_at (c.args.k * c.args.b) c.args.tape.now _ (omega arith) _ _ _ (rule c.args.table.now.sheet.bytes.now c.args.table.now.sheet.accepted c.args.k c.requires.k_in_bounds) told new.0, stays_by work_numbers _ _ new.1.len new.1.above)
