use Rattle.table.proofs.Gathering.{Gathered}
use Rattle.table.proofs.task_numbers.Given as goal

abbrev pub invariant-loop-start : goal.invariant-loop-start
invariant-loop-start l = Gathered l.sheet.bytes.now l.p l.start-index-end l.numbers l.q l.start-index
