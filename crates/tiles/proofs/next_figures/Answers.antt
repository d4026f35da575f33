-- `next_figures` raises the figures by the next layer and the marks, which stand as they stood. Assumes nothing.
use native.Mathlib.Omega.{arith}
use Rattle.tiles.proofs.Steps.{growable, progressed}
use Rattle.tiles.proofs.next_figures.Goals as goal

pub raise_figures-requires : goal.raise_figures-requires
raise_figures-requires c = let p = c.requires in
    (omega arith, omega arith, p.2, omega arith, growable _ _ _ c.args.work.now _ p.1 c.advance.ensures _ _ p.4 p.3)

pub returns : goal.returns
returns c = let p = c.requires in progressed _ _ _ _ _ p.1 c.advance.ensures _ _ p.4 _ c.raise_figures.ensures
