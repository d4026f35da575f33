use Prim.Native.Nat.{◌-◌, ◌≤◌}
use Rattle.figures.proofs.Offered.{Unmarked}
use Rattle.figures.proofs.any_mark.Given as goal

abbrev pub invariant-loop-t : goal.invariant-loop-t
invariant-loop-t l = (l.a ≤ l.t) × Unmarked l.bits l.k l.a l.t

abbrev pub decreases-loop-t : goal.decreases-loop-t
decreases-loop-t l = l.b - l.t
