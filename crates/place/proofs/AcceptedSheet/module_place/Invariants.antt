use Rattle.format.specs.Judgement.{sheet_in}
use Rattle.place.proofs.Walking.{Modules}
use Rattle.place.proofs.AcceptedSheet.module_place.Given as goal

abbrev pub invariant-loop : goal.invariant-loop
invariant-loop l = Modules (sheet_in l.self.bytes.now) l.p l.counter
