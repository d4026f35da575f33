-- The module that is told to the engine is the module k, and its figures are what is added. Assumes nothing.
use Rattle.format.specs.Judgement.{sheet_in}
use Rattle.format.proofs.RoundTrip.{accepted_well_formed}
use Rattle.modules.proofs.Telling.{rule, tells}
use Rattle.search.proofs.Filling.{cells_fit, filled_by}
use Rattle.search.proofs.add_module.Goals as goal

pub add_module-requires : goal.add_module-requires
add_module-requires c = let fit = cells_fit (sheet_in c.args.table.now.sheet.bytes.now) _ _ _ c.requires.k_in_bounds ((accepted_well_formed _ _ c.args.table.now.sheet.accepted)) _ c.requires.cells_of.0 c.requires.cells_of.1 in
    (c.requires.cells_of.1, fit, tells c.args.table.now.sheet.bytes.now c.args.table.now.sheet.accepted c.args.k c.requires.k_in_bounds c.engine_of-engine.ensures, c.requires.cells_of.2)

pub returns : goal.returns
returns c = let bs = c.args.table.now.sheet.bytes.now in
    filled_by (sheet_in bs) _ _ _ c.requires.k_in_bounds _ _ _ _ (rule bs c.args.table.now.sheet.accepted _ c.requires.k_in_bounds) c.engine_of-engine.ensures c.requires.cells_of.0 c.requires.cells_of.1 c.add_module.ensures
