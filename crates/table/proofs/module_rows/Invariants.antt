use Rattle.table.proofs.Tabling.{Tabled}
use Rattle.table.proofs.module_rows.Given as goal

abbrev pub invariant-loop-row : goal.invariant-loop-row
invariant-loop-row l = Tabled l.sheet.bytes.now l.row-items l.p l.row-index
