-- `add_bounds` begins the module's part, and goes through the lengths from a bound of 0 for no tick on. Assumes nothing.
use native.Mathlib.Omega.{arith}
use Rattle.bounds.proofs.Adding.{fits_begun, bounds_begun}
use Rattle.bounds.proofs.Bounding.{progress_start}
use Rattle.bounds.proofs.add_bounds.Goals as goal

pub add_lengths-requires : goal.add_lengths-requires
add_lengths-requires c = let p = c.requires in
    let begun = c.begin.ensures in
    (p.0, omega (arith, begun.within.len), fits_begun _ _ _ begun.within p.0 p.2, p.3, progress_start _ _ _ _ _ _ _ p.1 (omega arith) begun)

pub returns : goal.returns
returns c = bounds_begun _ _ _ c.begin.ensures.within c.requires.0 _ _ _ _ _ c.add_lengths.ensures
