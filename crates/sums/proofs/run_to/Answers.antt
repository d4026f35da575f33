-- `run_to` clears the layer and steps through the layers up to that of l ticks. Assumes nothing.
use native.Mathlib.Omega.{arith}
use Rattle.sums.proofs.Sums.{told_states, run_start}
use Rattle.sums.proofs.run_to.Goals as goal

pub clear-requires : goal.clear-requires
clear-requires c = omega (arith, told_states _ _ c.requires.2)

pub loop-i-init : goal.loop-i-init
loop-i-init c = run_start _ _ _ _ _ c.states_of.ensures (omega (arith, told_states _ _ c.requires.2)) c.clear.ensures
