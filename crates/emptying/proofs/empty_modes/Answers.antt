-- `empty_modes` tells the module in which each mode that is not kept is idle. Assumes nothing.
use mathlib.Core.Path.{refl}
use Rattle.emptying.proofs.Telling.{told_emptied}
use Rattle.emptying.proofs.empty_modes.Goals as goal

pub returns : goal.returns
returns c = told_emptied c.args.shape _ c.args.numbers.now _ c.args.kept refl refl c.kept_periods.ensures c.kept_switches.ensures c.kept_tasks.ensures
