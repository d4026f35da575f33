-- The table has a row for each module. Assumes nothing.
use native.Mathlib.Omega.{arith}
use Rattle.format.proofs.RoundTrip.{accepted_well_formed}
use Rattle.table.proofs.Reading.{row_of_module}
use Rattle.table.proofs.Table.row.Goals as goal

pub offset_bounds-self-k : goal.offset_bounds-self-k
offset_bounds-self-k c = omega (arith, (accepted_well_formed _ _ c.args.self.now.sheet.accepted).modules_most)

pub bounds-self-k : goal.bounds-self-k
bounds-self-k c = omega (arith, (accepted_well_formed _ _ c.args.self.now.sheet.accepted).modules_most)

pub returns : goal.returns
returns c = row_of_module _ c.args.self.now.sheet.accepted _ c.requires c.args.self.now.rows_are
