use Rattle.format.specs.Judgement.{sheet_in}
use Rattle.place.proofs.Walking.{Modes}
use Rattle.place.proofs.AcceptedSheet.mode_from.Given as goal

abbrev pub invariant-loop : goal.invariant-loop
invariant-loop l = Modes (sheet_in l.self.bytes.now) l.p l.j l.q l.counter
