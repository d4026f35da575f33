use Rattle.heads.specs.Heads.{Packed}
use Rattle.heads.proofs.pack.Given as goal

abbrev pub invariant-loop-i : goal.invariant-loop-i
invariant-loop-i l = Packed l.t l.i l.tops l.initial.work l.work
