use Rattle.format.specs.Judgement.{sheet_in}
use Rattle.quick.proofs.Sums.{SumsTo}
use Rattle.quick.proofs.quick_sums.Given as goal

abbrev pub invariant-loop-k : goal.invariant-loop-k
invariant-loop-k l = SumsTo (sheet_in l.table.sheet.bytes.now) l.n l.k l.initial.work l.work
