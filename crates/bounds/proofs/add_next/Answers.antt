-- `add_next` adds the bound to the number at its length, which is no part of the layer, and does not wrap. Assumes nothing.
use Rattle.bounds.proofs.Adding.{next_added}
use Rattle.bounds.proofs.add_next.Goals as goal

pub returns : goal.returns
returns c = let p = c.requires in next_added _ _ _ _ _ _ _ _ p.0 p.1 c.next_top-top.ensures
