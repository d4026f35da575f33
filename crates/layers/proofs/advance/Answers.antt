-- `advance` steps from the layer of every module that the numbers tell to its next one. Assumes nothing.
use native.Mathlib.Omega.{arith}
use Rattle.layers.proofs.Layers.{told_room, layer_low, layer_step}
use Rattle.layers.proofs.advance.Goals as goal

pub advance_by-requires : goal.advance_by-requires
advance_by-requires c = let y = c.requires.1 in (
  omega arith,
  record {
    owner = y.owner;
    rule = y.rule;
    told = y.told;
    room = told_room _ y.rule _ _ y.told _ _ _ y.layer;
    low = layer_low _ y.rule _ _ y.told _ _ y.layer c.requires.0;
  },
)

pub returns : goal.returns
returns c = let new = c.advance_by.ensures in
    record { len = new.len; layer = λ m ok told layer. layer_step m ok _ _ told _ _ layer _ new; above = new.above }
