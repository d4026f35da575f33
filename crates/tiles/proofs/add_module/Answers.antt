-- `add_module` begins the module's part, and goes through the lengths from figures for no tick on. Assumes nothing.
use native.Mathlib.Omega.{arith}
use Rattle.tiles.proofs.Rows.{longest_same, tile_same}
use Rattle.tiles.proofs.Steps.{none_length, progress_start}
use Rattle.tiles.proofs.Cells.{fit_begun, module_begun}
use Rattle.tiles.proofs.add_module.Goals as goal

pub add_lengths-requires : goal.add_lengths-requires
add_lengths-requires c = let p = c.requires in
    let begun = c.begin.ensures in
    let size = none_length _ p.0.few in (
      rw size (tile_same _ _ (λ x h. begun.within.below x (omega arith)) _ _ begun.within.len p.0),
      rw size (fit_begun _ _ _ _ begun.within p.0.ends p.1),
      p.2,
      progress_start _ p.0.few _ _ _ _ _ _ p.0.memory (omega arith) begun,
      rw size (longest_same _ _ (λ x h. begun.within.below x (omega arith)) _ _ (omega (arith, p.0.ends)) p.3),
    )

pub returns : goal.returns
returns c = let p = c.requires in
    module_begun _ _ _ _ c.begin.ensures.within p.0.ends _ _ _ (rw (none_length _ p.0.few) at c.add_lengths.ensures)
