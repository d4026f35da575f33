-- `any_mark` finds a mark among the ticks asked for: none of those before t bears one. Assumes nothing.
use native.Mathlib.Omega.{arith}
use Rattle.figures.proofs.Offered.{unmarked_more}
use Rattle.figures.proofs.any_mark.Goals as goal

pub loop-t-preserved : goal.loop-t-preserved
loop-t-preserved c = (omega arith, unmarked_more _ _ _ _ _ c.quiet-skip.ensures c.loop-t.invariant.1)
