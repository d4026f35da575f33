-- `fill_tile` goes through the modules; so far each cell holds the sum over the modules behind. Assumes nothing.
use mathlib.Core.Path.{◌≡◌}
use Prim.Native.Nat.{pred, ◌+◌}
use native.Mathlib.Omega.{arith}
use Rattle.tiles.proofs.Parts.{within_then}
use Rattle.search.proofs.Filling.{kept_by_clearing, filled_none}
use Rattle.search.proofs.Keeping.{tile_kept, longest_kept}
use Rattle.search.proofs.fill_tile.Goals as goal

pub loop-k-init : goal.loop-k-init
loop-k-init c = let cleared = c.clear_cells.ensures in
    filled_none _ _ _ _ _ (tile_kept (kept_by_clearing cleared) c.requires) cleared

pub add_module-requires-clause-cells_of : goal.add_module-requires-clause-cells_of
add_module-requires-clause-cells_of c = let done = c.loop-k.invariant in
    let kept = within_then (kept_by_clearing c.clear_cells.ensures) done.kept in
    let last : pred (c.args.tile.now.lo + c.args.tile.now.width) ≡ c.last.result = omega (arith, c.last.ensures) in
    (done.cells, tile_kept kept c.requires, longest_kept kept last (omega (arith, c.requires.ends)) c.longest-stop.ensures)
