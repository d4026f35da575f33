use Prim.Native.Nat.{◌+◌, ◌-◌}
use Rattle.cells.proofs.Searching.{Passed}
use Rattle.cells.proofs.first_at_end.Given as goal

abbrev pub invariant-loop-l : goal.invariant-loop-l
invariant-loop-l l = Passed l.work l.lo l.width l.i l.l l.at

abbrev pub decreases-loop-l : goal.decreases-loop-l
decreases-loop-l l = l.lo + l.i + 1 - l.l
