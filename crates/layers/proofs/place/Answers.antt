-- `place` adds the turned mode time to where the mode's part begins. Assumes nothing.
use Rattle.layers.specs.Step.{look}
use native.Mathlib.Omega.{arith}
use native.Mathlib.Nat.{mod-le}
use Prim.Native.Nat.{◌+◌}
use Rattle.layers.proofs.place.Goals as goal

pub overflow_add-result : goal.overflow_add-result
overflow_add-result c = omega arith

pub overflow_add-result-2 : goal.overflow_add-result-2
overflow_add-result-2 c = omega (arith, mod-le (c.args.d + c.args.n) (look c.args.periods c.args.k), c.states.ensures.1)
