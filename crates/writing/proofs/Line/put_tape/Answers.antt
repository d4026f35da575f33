-- `Line::put_tape` writes the digits of a tape mode by mode. Assumes nothing.
use Rattle.writing.proofs.Writing.{wrote_mode}
use Rattle.writing.proofs.Line.put_tape.Goals as goal

pub loop-mode-preserved : goal.loop-mode-preserved
loop-mode-preserved c = wrote_mode _ _ c.loop-mode-test.true c.loop-mode.invariant c.put.ensures
