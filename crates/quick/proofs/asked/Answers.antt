-- An accepted sheet has at most 8 modules, and at most 2000 ticks up to its horizon. Assumes nothing.
use native.Mathlib.Omega.{arith}
use Rattle.format.proofs.RoundTrip.{accepted_well_formed}
use Rattle.judge.proofs.JudgedLaws.{accepted_told}
use Rattle.quick.proofs.asked.Goals as goal

pub enough-requires : goal.enough-requires
enough-requires g c =
    let told = accepted_told _ c.args.sheet.now c.in_ok-judged.ensures in
    let ok = accepted_well_formed _ _ told.is_accepted in
    c.requires _ (omega (arith, told.modules_are, ok.modules_most), omega (arith, told.horizon_is, ok.horizon_most))
