use Rattle.format.specs.Judgement.{sheet_in}
use Rattle.bounds.proofs.Summing.{BoundedTo}
use Rattle.bounds.proofs.bound_sums.Given as goal

abbrev pub invariant-loop-k : goal.invariant-loop-k
invariant-loop-k l = BoundedTo (sheet_in l.table.sheet.bytes.now) l.k l.lo l.width l.stop l.initial.work l.work
