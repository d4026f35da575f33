use Rattle.layers.specs.Step.{Moved, offered}
use Rattle.layers.proofs.switches.Given as goal

abbrev pub invariant-loop-t : goal.invariant-loop-t
invariant-loop-t l = Moved (offered l.shape.listed l.shape.every l.k l.heads l.n l.t) l.initial.part l.part
