-- `top_module` has the bound as a row of one number. Assumes nothing.
use Rattle.bounds.proofs.Tops.{topped}
use Rattle.bounds.proofs.top_module.Goals as goal

pub returns : goal.returns
returns c = topped c.args.range.now.lo c.args.range.now.width _ _ _ c.offer.ensures
