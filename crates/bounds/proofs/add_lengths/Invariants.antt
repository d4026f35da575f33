use Rattle.layers.specs.Layer.{Each}
use Rattle.bounds.specs.Bounds.{Progress, BoundsAdded}
use Rattle.bounds.proofs.add_lengths.Given as goal

abbrev pub invariant-loop-l : goal.invariant-loop-l
invariant-loop-l l = (BoundsAdded l.shape l.numbers l.range.lo l.range.width l.l l.initial.work l.work) × (Each l.shape l.numbers (λ m. Progress m l.range.lo l.range.width l.l l.work l.best))
