-- `first_of_all` looks at more and more lengths: so far only the working memory has changed. Assumes nothing.
use Rattle.quick.proofs.Pieces.{found_behind, found_early}
use native.Mathlib.Omega.{arith}
use Rattle.format.proofs.RoundTrip.{accepted_well_formed}
use Rattle.quick.proofs.first_of_all.Goals as goal

pub returns-in-Some : goal.returns-in-Some
returns-in-Some c = found_early _ _ _ _ _ _ (omega (arith, c.horizon-horizon.ensures)) (rw c.in-Some.is at (found_behind _ _ _ _ _ _ c.loop-n.invariant.1 c.first_over.ensures))

pub overflow_mul-n : goal.overflow_mul-n
overflow_mul-n c = omega (arith, (accepted_well_formed _ _ c.args.table.now.sheet.accepted).horizon_most, c.horizon-horizon.ensures)
