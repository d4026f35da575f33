use Prim.Native.Nat.{◌-◌}
use lib.ListN.{length}
use Rattle.judge.proofs.CameTo.{CameTo}
use Rattle.judge.proofs.judge.Given as goal

abbrev pub invariant-loop-read : goal.invariant-loop-read
invariant-loop-read l = CameTo l.sheet l.read

abbrev pub decreases-loop-read : goal.decreases-loop-read
decreases-loop-read l = length l.sheet - l.read.at
