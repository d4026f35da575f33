use Rattle.table.proofs.Putting.{Put}
use Rattle.table.proofs.put_tasks.Given as goal

abbrev pub invariant-loop-i : goal.invariant-loop-i
invariant-loop-i l = Put l.sheet.bytes.now l.p l.at l.i-end l.initial.numbers l.numbers l.i
