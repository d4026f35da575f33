-- `next_top` takes the bound from the next layer and the marks, which stand as they stood. Assumes nothing.
use Rattle.sums.proofs.Sums.{is_layer}
use Rattle.tiles.proofs.Steps.{next_layer}
use Rattle.bounds.proofs.Bounding.{progressed}
use Rattle.bounds.proofs.next_top.Goals as goal

pub top_module-requires : goal.top_module-requires
top_module-requires c = let p = c.requires in
    let layer = next_layer _ _ _ c.args.work.now _ p.1 c.advance.ensures (λ m ok told. (p.3 m ok told).layer) in
    is_layer _ _ _ _ p.2 layer

pub returns : goal.returns
returns c = progressed _ _ _ c.args.work.now _ c.requires.1 c.advance.ensures _ _ _ _ c.requires.3 c.top_module.ensures
