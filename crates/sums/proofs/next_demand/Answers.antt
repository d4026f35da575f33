-- `next_demand` takes the largest number of the next layer. Assumes nothing.
use native.Mathlib.Omega.{arith}
use Rattle.sums.proofs.Sums.{layered_more, told_states, layer_demand}
use Rattle.sums.proofs.next_demand.Goals as goal

pub largest-requires : goal.largest-requires
largest-requires c = omega (arith, told_states _ _ c.requires.2)

pub returns : goal.returns
returns c = let new = c.advance.ensures in
    let p = c.requires in
    let layer = layered_more _ _ _ _ _ new p.3 in
    (new.len, layer, layer_demand _ _ _ _ _ _ c.states_of.ensures c.largest.ensures layer)
