use Rattle.table.proofs.Starting.{Counted}
use Rattle.table.proofs.numbers_before.Given as goal

abbrev pub invariant-loop : goal.invariant-loop
invariant-loop l = Counted l.sheet.bytes.now l.p l.j l.q l.n l.counter
