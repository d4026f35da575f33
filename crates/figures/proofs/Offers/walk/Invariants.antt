use Rattle.figures.specs.Offers.{Took, Below, TaskOffer}
use Rattle.figures.proofs.Offers.walk.Given as goal

abbrev pub invariant-loop-j : goal.invariant-loop-j
invariant-loop-j g l =
    let ends = g.T.Takes.ends l.to in
    Took ends (Below (TaskOffer l.self.part.now l.self.tasks.now l.self.bits.now l.self.k ends.lo l.self.l) l.j) l.initial.row l.row
