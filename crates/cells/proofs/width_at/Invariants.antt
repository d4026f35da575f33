use Rattle.cells.proofs.Widths.{Widened}
use Rattle.cells.proofs.width_at.Given as goal

abbrev pub invariant-loop-width : goal.invariant-loop-width
invariant-loop-width l = Widened l.work l.lo l.horizon l.width l.count
