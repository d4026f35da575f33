-- `engine_of` tells the module to the engine: the rows, the starts and the numbers are those of the accepted sheet. Assumes nothing.
use Rattle.format.specs.Judgement.{sheet_in}
use Rattle.place.specs.There.{ModuleThere}
use mathlib.Core.Path.{refl}
use Rattle.modules.proofs.Telling.{told_by_rows}
use Rattle.modules.proofs.engine_of.Goals as goal

pub modes_at-modes-requires : goal.modes_at-modes-requires
modes_at-modes-requires c = record { k = c.args.k; there = record { number = c.requires.k_in_bounds; place = c.module_place.ensures } }

pub returns : goal.returns
returns c = let bs = c.args.sheet.now.bytes.now in
    let k = c.args.k in
    let there : ModuleThere (sheet_in bs) k c.module_place.result = record { number = c.requires.k_in_bounds; place = c.module_place.ensures } in
    told_by_rows bs c.args.sheet.now.accepted k c.requires.k_in_bounds _ c.module_tasks.result
    (c.modes_at-modes.ensures k there)
    refl
    c.module_tasks.ensures
    c.requires.row_of.periods
    c.requires.row_of.every
    c.requires.row_of.listed
