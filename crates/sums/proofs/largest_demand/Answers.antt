-- `largest_demand` takes the largest number of the layer's states. Assumes nothing.
use native.Mathlib.Omega.{arith}
use Rattle.sums.proofs.Sums.{told_states, layer_demand}
use Rattle.sums.proofs.largest_demand.Goals as goal

pub largest-requires : goal.largest-requires
largest-requires c = omega (arith, told_states _ _ c.requires.2)

pub returns : goal.returns
returns c = layer_demand _ _ _ _ _ _ c.states_of.ensures c.largest.ensures c.run_to.ensures.layer
