-- `begin` makes the marks, then clears the layer, which stands before them. Assumes nothing.
use native.Mathlib.Omega.{arith}
use Rattle.sums.proofs.Sums.{told_states}
use Rattle.tiles.proofs.Steps.{begun}
use Rattle.tiles.proofs.begin.Goals as goal

pub clear-requires : goal.clear-requires
clear-requires c = omega (arith, told_states _ _ c.requires.0.1, c.states-states.ensures.0)

pub returns : goal.returns
returns c = begun _ _ _ _ _ _ c.requires.2 c.states-states.ensures.0 c.mark_entries.ensures c.clear.ensures
