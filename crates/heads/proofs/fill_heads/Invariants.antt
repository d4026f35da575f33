use Rattle.heads.specs.Heads.{BackTo, Kept}
use Rattle.heads.proofs.fill_heads.Given as goal

abbrev pub invariant-loop-t : goal.invariant-loop-t
invariant-loop-t l = BackTo l.shape l.numbers l.a l.b l.t l.work × Kept l.initial.work l.work
