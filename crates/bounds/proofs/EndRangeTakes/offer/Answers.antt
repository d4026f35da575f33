-- `offer` looks at the marks only where the number is larger than the one that stands there. Assumes nothing.
use native.Mathlib.Omega.{arith}
use Rattle.bounds.proofs.Tops.{tick_some}
use Rattle.bounds.proofs.EndRangeTakes.offer.Goals as goal

pub returns-then-any_mark : goal.returns-then-any_mark
returns-then-any_mark c =
    tick_some _ _ _ _ _ _ _ _ _ c.saturating_sub-first.ensures c.saturating_sub-end.ensures _ c.any_mark.ensures (omega arith) c.if-row-v.true c.if-any_mark.true
