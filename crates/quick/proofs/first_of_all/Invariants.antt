use Rattle.model.specs.Limits.{work_numbers}
use Rattle.query.specs.Memory.{Stays}
use Prim.Native.Nat.{◌-◌, ◌≤◌}
use Rattle.quick.proofs.first_of_all.Given as goal

abbrev pub invariant-loop-n : goal.invariant-loop-n
invariant-loop-n l = (1 ≤ l.n) × Stays work_numbers l.initial.work l.work

abbrev pub decreases-loop-n : goal.decreases-loop-n
decreases-loop-n l = l.horizon - l.n
