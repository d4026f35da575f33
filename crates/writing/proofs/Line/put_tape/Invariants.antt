use mathlib.Core.List.{map}
use lib.ListN.{take}
use Rattle.lines.specs.Decimal.{digit}
use Rattle.writing.specs.Line.{Wrote}
use Rattle.writing.proofs.Line.put_tape.Given as goal

abbrev pub invariant-loop-mode : goal.invariant-loop-mode
invariant-loop-mode l = Wrote l.initial.self l.self (take l.mode-index (map digit l.tape))
