use Rattle.memory.specs.Map.{layer_part}
use Rattle.sums.specs.Sums.{Layered, Summed}
use Rattle.sums.proofs.add_demands.Given as goal

abbrev pub invariant-loop-l : goal.invariant-loop-l
invariant-loop-l l = (Summed l.shape l.numbers l.l l.initial.work l.work) × (Layered l.shape l.numbers l.l (layer_part l.work))
