-- `reached_engine_of` tells the module whose modes that are not reached are idle: they are emptied by the row of those that are. Assumes nothing.
use Rattle.modules.proofs.Telling.{tells, told_reached}
use Rattle.modules.proofs.reached_engine_of.Goals as goal

pub reached_modes-kept-requires : goal.reached_modes-kept-requires
reached_modes-kept-requires c = (c.engine_of-engine.result.numbers, tells c.args.sheet.now.bytes.now c.args.sheet.now.accepted c.args.k c.requires.k_in_bounds c.engine_of-engine.ensures)

pub empty_modes-requires : goal.empty_modes-requires
empty_modes-requires c = tells c.args.sheet.now.bytes.now c.args.sheet.now.accepted c.args.k c.requires.k_in_bounds c.engine_of-engine.ensures

pub returns : goal.returns
returns c = told_reached c.args.sheet.now.bytes.now c.args.sheet.now.accepted c.args.k c.requires.k_in_bounds c.engine_of-engine.ensures c.reached_modes-kept.ensures c.empty_modes.ensures
