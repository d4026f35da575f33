-- The rows at the module's place are its rows. Assumes nothing.
use Rattle.table.proofs.module_row.Goals as goal

pub row_at-requires : goal.row_at-requires
row_at-requires c = record { k = c.args.k; there = record { number = c.requires; place = c.module_place.ensures } }

pub returns : goal.returns
returns c = c.row_at.ensures c.args.k (record { number = c.requires; place = c.module_place.ensures })
