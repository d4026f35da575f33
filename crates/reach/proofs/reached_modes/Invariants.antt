use Rattle.reach.proofs.Rounds.{After}
use Rattle.reach.proofs.reached_modes.Given as goal

abbrev pub invariant-loop : goal.invariant-loop
invariant-loop l = After l.shape.modes l.shape.listed l.counter l.row
