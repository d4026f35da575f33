use Rattle.layers.specs.Step.{total, Stepped}
use mathlib.Core.Path.{◌≡◌}
use Rattle.layers.proofs.step.Given as goal

abbrev pub invariant-loop-k : goal.invariant-loop-k
invariant-loop-k l = (l.from ≡ total l.shape.periods l.k) × Stepped l.shape l.numbers l.heads l.l l.n l.k l.initial.layer l.layer
