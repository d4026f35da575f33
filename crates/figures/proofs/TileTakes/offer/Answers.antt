-- The tile's `offer` raises to v the ends that are so many ticks after a mark, and no others: so far those of the marks before e. Assumes nothing.
use native.Mathlib.Omega.{arith}
use Rattle.figures.proofs.Offered.{ticks_more, ticks_skip}
use Rattle.figures.proofs.TileTakes.offer.Goals as goal

pub loop-e-preserved-then-skip-eq0 : goal.loop-e-preserved-then-skip-eq0
loop-e-preserved-then-skip-eq0 c = let j = c.loop-e in (
  omega arith,
  ticks_more _ _ _ _ _ _ _ j.e _ _ _ j.row c.requires (omega arith) c.quiet-skip.ensures c.if-skip-eq0.true c.spot-i.ensures c.max.ensures j.invariant.1,
)

pub loop-e-preserved : goal.loop-e-preserved
loop-e-preserved c = (omega arith, ticks_skip _ _ _ _ _ _ _ _ _ _ c.quiet-skip.ensures c.loop-e.invariant.1)
