use Rattle.emptying.proofs.Laying.{Laid}
use Rattle.emptying.proofs.kept_tasks.Given as goal

abbrev pub invariant-loop-k : goal.invariant-loop-k
invariant-loop-k l = Laid l.shape l.numbers l.kept l.starts l.out l.at l.k
