use Rattle.layers.specs.Step.{Moved, gained}
use Rattle.layers.proofs.releases.Given as goal

abbrev pub invariant-loop-i : goal.invariant-loop-i
invariant-loop-i l = Moved (gained l.tasks l.l l.n l.i) l.initial.part l.part
