use Rattle.marks.specs.Marking.{Marking, Tick}
use Rattle.marks.proofs.Walk.mark_tick.Given as goal

abbrev pub invariant-loop-k : goal.invariant-loop-k
invariant-loop-k l = Marking (Tick l.self.shape l.self.horizon l.t l.k l.initial.bits) l.initial.bits l.bits
