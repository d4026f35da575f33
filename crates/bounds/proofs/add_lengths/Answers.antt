-- `add_lengths` goes through the lengths: so far the numbers up to l have their bounds, and the module has come to l ticks. Assumes nothing.
use native.Mathlib.Omega.{arith}
use Rattle.bounds.proofs.Adding.{bounds_more}
use Rattle.bounds.proofs.add_lengths.Goals as goal

pub loop-l-preserved : goal.loop-l-preserved
loop-l-preserved c = let new = c.add_next-best.ensures in (bounds_more _ _ _ _ _ _ _ _ _ (omega arith) c.loop-l.invariant.0 new, new.each)
