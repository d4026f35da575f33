-- `clear_cells` clears the part of the working memory where the cells stand. Assumes nothing.
use Rattle.cells.proofs.Clearing.{cells_cleared}
use Rattle.cells.proofs.clear_cells.Goals as goal

pub returns : goal.returns
returns c = cells_cleared _ c.clear.new.layer c.requires c.clear.ensures
