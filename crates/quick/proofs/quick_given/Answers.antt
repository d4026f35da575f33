-- What is found up to the horizon is the verdict; only the working memory is written. Assumes nothing.
use Rattle.quick.proofs.Giving.{quick_is}
use Rattle.quick.proofs.quick_given.Goals as goal

pub returns : goal.returns
returns c = quick_is c.args.sheet.now c.args.work.now _ _ _ c.requires (rw (c.new-table.ensures.sheet, ← c.requires.horizon_is) at c.first_of_all.ensures)
