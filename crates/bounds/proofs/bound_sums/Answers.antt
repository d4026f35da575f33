-- `bound_sums` goes through the modules; so far no sum over the modules behind exceeds the number at its length. Assumes nothing.
use Prim.Native.Nat.{◌<◌}
use native.Mathlib.Omega.{arith}
use lib.ListN.{length}
use Rattle.format.proofs.RoundTrip.{accepted_well_formed}
use Rattle.format.specs.Judgement.{sheet_in}
use Rattle.bounds.proofs.Summing.{bounded_more, bounded_fit, bounded_end}
use Rattle.bounds.proofs.bound_sums.Goals as goal

pub add_module-requires-clause-work_numbers_in_bounds : goal.add_module-requires-clause-work_numbers_in_bounds
add_module-requires-clause-work_numbers_in_bounds c = let q = c.requires in
    let done = c.loop-k.invariant in
    let number : c.loop-k.k < length (sheet_in c.args.table.now.sheet.bytes.now).modules = omega (arith, c.args.table.now.modules_are) in
    let sound = accepted_well_formed _ (sheet_in c.args.table.now.sheet.bytes.now) c.args.table.now.sheet.accepted in
    (omega (arith, q.0, done.len, c.clear_sums.ensures.len), q.4, bounded_fit _ _ _ _ sound _ _ _ number done)

pub loop-k-preserved : goal.loop-k-preserved
loop-k-preserved c = bounded_more _ _ _ _ _ _ _ _ (omega (arith, c.args.table.now.modules_are)) c.loop-k.invariant c.add_module.ensures

pub returns : goal.returns
returns c = bounded_end _ _ _ _ _ _ _ _ (omega (arith, c.args.table.now.modules_are)) c.requires.4 c.clear_sums.ensures c.loop-k.invariant
