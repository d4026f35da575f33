-- A switch names the mode where one is found. Assumes nothing.
use mathlib.Core.Path.{◌∙◌}
use Rattle.table.proofs.Switching.{found_named}
use Rattle.table.proofs.listed_to.Goals as goal

pub returns : goal.returns
returns c = λ k j h. c.is_some.ensures ∙ found_named c.args.t _ c.switch_to.result (c.switch_to.ensures k j h)
