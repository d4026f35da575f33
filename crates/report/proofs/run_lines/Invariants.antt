use Rattle.query.specs.Memory.{tapes_in}
use Rattle.lines.specs.Lines.{run_lines}
use Rattle.writing.specs.Writing.{Put}
use Rattle.report.proofs.run_lines.Given as goal

abbrev pub invariant-loop-k : goal.invariant-loop-k
invariant-loop-k l = Put l.at l.next (run_lines 0 (tapes_in l.k l.end l.tape)) l.initial.out l.out
