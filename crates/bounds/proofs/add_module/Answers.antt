-- The module that is told to the engine is the module k, and its bounds are what is added. Assumes nothing.
use Rattle.format.specs.Judgement.{sheet_in}
use Rattle.modules.proofs.Telling.{rule, tells}
use Rattle.bounds.proofs.Adding.{module_added}
use Rattle.bounds.proofs.add_module.Goals as goal

pub add_bounds-requires : goal.add_bounds-requires
add_bounds-requires c = let p = c.requires.work_numbers_in_bounds in
    (p.1, p.0, p.2, tells c.args.table.now.sheet.bytes.now c.args.table.now.sheet.accepted c.args.k c.requires.k_in_bounds c.engine_of-engine.ensures)

pub returns : goal.returns
returns c = let bs = c.args.table.now.sheet.bytes.now in
    module_added (sheet_in bs) c.args.k _ _ _ _ _ _ _ (rule bs c.args.table.now.sheet.accepted c.args.k c.requires.k_in_bounds) c.engine_of-engine.ensures c.add_bounds.ensures
