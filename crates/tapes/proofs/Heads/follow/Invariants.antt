use Rattle.tapes.proofs.Following.{Following}
use Rattle.tapes.proofs.Heads.follow.Given as goal

abbrev pub invariant-loop-t : goal.invariant-loop-t
invariant-loop-t l = Following l.self.shape.now l.self.numbers.now l.self.a l.self.b l.initial.tape l.tape l.s l.v l.t
