-- `quick_sums` goes through the modules; so far each sum is that of the modules behind. Assumes nothing.
use Prim.Native.Nat.{◌<◌}
use native.Mathlib.Omega.{arith}
use lib.ListN.{length}
use Rattle.format.specs.Judgement.{sheet_in}
use Rattle.format.proofs.RoundTrip.{accepted_well_formed}
use Rattle.quick.proofs.Sums.{sums_more, sums_fit, sums_end}
use Rattle.quick.proofs.quick_sums.Goals as goal

pub clear_sums-requires : goal.clear_sums-requires
clear_sums-requires c = omega (arith, ((accepted_well_formed _ _ c.args.table.now.sheet.accepted)).horizon_most, c.requires.n_bound, c.requires.work_numbers_bound)

pub add_module-requires : goal.add_module-requires
add_module-requires c = let done = c.loop-k.invariant in
    let number : c.loop-k.k < length (sheet_in c.args.table.now.sheet.bytes.now).modules = omega (arith, c.loop-k-test.true, c.args.table.now.modules_are) in
    record { k_bound = number; n_bound = c.requires.n_bound; work_numbers_bound = (omega (arith, c.requires.work_numbers_bound, done.len, c.clear_sums.ensures.len), sums_fit _ _ ((accepted_well_formed _ _ c.args.table.now.sheet.accepted)) c.requires.n_bound _ _ _ number done) }

pub loop-k-preserved : goal.loop-k-preserved
loop-k-preserved c = sums_more _ _ _ _ _ _ (omega (arith, c.loop-k-test.true, c.args.table.now.modules_are)) c.loop-k.invariant c.add_module.ensures

pub returns : goal.returns
returns c = sums_end _ _ ((accepted_well_formed _ _ c.args.table.now.sheet.accepted)) c.requires.n_bound _ _ _ _ (omega (arith, c.loop-k.auto.k-end, c.loop-k-test.false, c.args.table.now.modules_are)) c.clear_sums.ensures c.loop-k.invariant
