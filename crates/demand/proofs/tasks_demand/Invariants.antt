use Rattle.demand.proofs.Tasks.{Summed}
use Rattle.demand.proofs.tasks_demand.Given as goal

abbrev pub invariant-loop-i : goal.invariant-loop-i
invariant-loop-i l = Summed l.sheet.bytes.now l.p l.n l.a l.b l.demand l.i
