-- `advance_by` makes of the numbers that the layer holds of the states those of one tick earlier. Assumes nothing.
use Rattle.layers.proofs.Layers.{told_ready, step_fits, holds_step}
use Rattle.layers.proofs.advance_by.Goals as goal

pub heads-tops-requires : goal.heads-tops-requires
heads-tops-requires c = let y = c.requires.1 in
    let ready = told_ready y.owner y.rule _ _ y.told in
    (ready.few, y.room, λ k h. (ready.each k h).positive)

pub step-requires : goal.step-requires
step-requires c = let p = c.requires in
    let y = p.1 in
    record { n_bound = (p.0, told_ready _ y.rule _ _ y.told, y.room); by_index = step_fits _ _ _ y _ _ c.heads-tops.ensures _ }

pub returns : goal.returns
returns c = let new = c.step.ensures in
    record {
      len = new.len;
      holds = λ m ok told f layer. holds_step m ok _ _ told _ f _ layer _ c.heads-tops.ensures _ _ new;
      above = new.above;
    }
