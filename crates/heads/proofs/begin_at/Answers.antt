-- `begin_at` clears the layer and writes the heads of the last tick. Assumes nothing.
use native.Mathlib.Omega.{arith}
use Rattle.layers.proofs.Parts.{cleared_at}
use Rattle.heads.proofs.Backward.{states_few, back_end, kept_end}
use Rattle.heads.proofs.begin_at.Goals as goal

pub clear-requires : goal.clear-requires
clear-requires c = let p = c.requires in omega (arith, states_few _ _ p.0, c.states.ensures.0)

pub returns : goal.returns
returns c = let p = c.requires in
    let cleared = cleared_at _ _ c.states.ensures.0 c.clear.ensures in
    (back_end _ _ _ _ p.0 p.1 _ _ _ (omega (arith, states_few _ _ p.0)) cleared c.note_heads.ensures, kept_end _ _ c.args.a _ p.0 p.1 _ _ _ (omega (arith, states_few _ _ p.0)) cleared c.note_heads.ensures)
