-- The search, and where an interval is over its tapes: that is the exact test's answer. Assumes nothing.
use native.Mathlib.Omega.{arith}
use lib.ListN.{length}
use Rattle.model.specs.Limits.{work_numbers}
use Rattle.query.proofs.Meeting.{stays_by, stays_more}
use Rattle.exact.proofs.Giving.{work_room, over_within, clear_is, over_is}
use Rattle.exact.proofs.exact_given.Goals as goal

pub write_tapes-requires : goal.write_tapes-requires
write_tapes-requires c = let p = c.requires in
    let room = over_within c.args.sheet.now (length c.args.work.now) (length c.args.tape.now) p (rw c.new-table.ensures.sheet at c.in_ok-over.ensures.found) in
    rw (c.new-table.ensures.modules, c.from.ensures, c.from-3.ensures)
    (omega (arith, work_room c.args.sheet.now (length c.args.work.now) (length c.args.tape.now) p, c.search.ensures.kept.len), room.0, room.1)

pub returns-in_err-over : goal.returns-in_err-over
returns-in_err-over c = let found = c.in_err-over.ensures in
    rw c.from_residual.ensures (clear_is c.args.sheet.now c.args.work.now _ c.args.tape.now c.requires (stays_by work_numbers _ _ found.kept.len found.kept.above) (rw c.new-table.ensures.sheet at found.found))

pub returns : goal.returns
returns c = let found = c.search.ensures in
    let stays = stays_more (stays_by work_numbers _ _ found.kept.len found.kept.above) c.write_tapes.ensures.1 in
    over_is c.args.sheet.now c.args.work.now _ c.args.tape.now c.requires stays _ (rw c.new-table.ensures.sheet at c.in_ok-over.ensures.found)
    (rw (c.new-table.ensures.sheet, c.from-2.ensures, c.from-3.ensures) at c.write_tapes.ensures.0)
