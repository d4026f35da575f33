use Rattle.sums.specs.Sums.{RunTo}
use Rattle.sums.proofs.run_to.Given as goal

abbrev pub invariant-loop-i : goal.invariant-loop-i
invariant-loop-i l = RunTo l.shape l.numbers l.i l.initial.layer l.layer
