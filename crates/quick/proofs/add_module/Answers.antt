-- The module that is told to the engine is the module k without the modes that are not reached, and its demands are what is added. Assumes nothing.
use native.Mathlib.Omega.{arith}
use Rattle.format.specs.Judgement.{sheet_in}
use Rattle.format.proofs.RoundTrip.{accepted_well_formed}
use Rattle.modules.proofs.Telling.{reached_rule, reached_tells}
use Rattle.quick.proofs.Sums.{module_added}
use Rattle.quick.proofs.add_module.Goals as goal

pub add_demands-requires : goal.add_demands-requires
add_demands-requires c = (omega (arith, ((accepted_well_formed _ _ c.args.table.now.sheet.accepted)).horizon_most, c.requires.n_bound), c.requires.work_numbers_bound.0, c.requires.work_numbers_bound.1, reached_tells c.args.table.now.sheet.bytes.now c.args.table.now.sheet.accepted c.args.k c.requires.k_bound c.reached_engine_of-engine.ensures)

pub returns : goal.returns
returns c = let bs = c.args.table.now.sheet.bytes.now in
    module_added (sheet_in bs) _ c.args.k _ _ _ _ (reached_rule bs c.args.table.now.sheet.accepted c.args.k c.requires.k_bound) c.reached_engine_of-engine.ensures c.add_demands.ensures
