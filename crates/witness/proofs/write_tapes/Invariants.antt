use Rattle.model.specs.Limits.{work_numbers}
use Rattle.format.specs.Judgement.{sheet_in}
use Rattle.query.specs.Memory.{Stays}
use Rattle.witness.proofs.Tapes.{WrittenTo}
use Rattle.witness.proofs.write_tapes.Given as goal

abbrev pub invariant-loop-k : goal.invariant-loop-k
invariant-loop-k l = WrittenTo (sheet_in l.table.sheet.bytes.now) l.a l.b l.k l.initial.tape l.tape × Stays work_numbers l.initial.work l.work
