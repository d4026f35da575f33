use Rattle.marks.specs.Marking.{Kept, Followed}
use Rattle.marks.proofs.Walk.follow.Given as goal

abbrev pub invariant-loop-t : goal.invariant-loop-t
invariant-loop-t l = Kept l.initial.bits l.bits × Followed l.self.shape l.self.horizon l.t l.bits
