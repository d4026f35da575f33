-- `back_to` makes of the layer and the heads of tick t + 1 those of tick t. Assumes nothing.
use native.Mathlib.Omega.{arith}
use Rattle.heads.proofs.Backward.{states_few, steppable, back_more, kept_back}
use Rattle.heads.proofs.back_to.Goals as goal

pub advance_by-requires : goal.advance_by-requires
advance_by-requires c = let p = c.requires in (omega arith, steppable _ _ _ _ p.0 p.2 _ p.1 _ p.4 (omega (arith, states_few _ _ p.0)))

pub returns : goal.returns
returns c = let p = c.requires in
    let r = c.counted_at.ensures in
    (back_more _ _ _ _ p.0 p.2 _ p.1 _ p.4 _ r _ _ _ (omega arith) c.advance_by.ensures c.note_heads.ensures, kept_back _ _ _ _ p.0 p.2 _ p.1 _ p.4 _ r _ _ _ (omega arith) c.advance_by.ensures c.note_heads.ensures)
