use Prim.Native.Nat.{◌-◌}
use lib.ListN.{length}
use Rattle.layers.proofs.Walks.{Walked}
use Rattle.layers.proofs.change.Given as goal

abbrev pub invariant-loop-x : goal.invariant-loop-x
invariant-loop-x g l = Walked l.every l.start (goal.F-post g l.f) l.initial.part l.part l.x

abbrev pub decreases-loop-x : goal.decreases-loop-x
decreases-loop-x g l = length l.initial.part - l.x
