-- `first_over` finds in the sums what the sheet's sums have. Assumes nothing.
use Rattle.quick.proofs.Pieces.{sums_found}
use Rattle.format.proofs.RoundTrip.{accepted_well_formed}
use native.Mathlib.Omega.{arith}
use Rattle.quick.proofs.first_over.Goals as goal

pub first_over-requires : goal.first_over-requires
first_over-requires c = let ok = accepted_well_formed _ _ c.args.table.now.sheet.accepted in (omega (arith, ok.horizon_most, c.requires.n_bound), omega (arith, ok.horizon_most, c.requires.n_bound, c.requires.work_numbers_bound, c.quick_sums.ensures.len))

pub returns : goal.returns
returns c = sums_found _ _ _ _ _ c.quick_sums.ensures c.first_over.ensures
