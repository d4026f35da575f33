use Rattle.marks.specs.Marking.{Marking, Opens}
use Rattle.marks.proofs.Walk.mark_targets.Given as goal

abbrev pub invariant-loop-j : goal.invariant-loop-j
invariant-loop-j l = Marking (Opens l.self.shape l.self.horizon l.k l.t l.j) l.initial.bits l.bits
