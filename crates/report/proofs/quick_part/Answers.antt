-- The quick test's terms are met, so that what it says is the quick verdict. Assumes nothing.
use mathlib.Core.Path.{ap}
use Rattle.lines.specs.Lines.{quick_line}
use Rattle.report.specs.Parts.{said}
use Rattle.report.proofs.Giving.{quick_said}
use Rattle.report.proofs.quick_part.Goals as goal

pub returns : goal.returns
returns c = let tested = rw c.unwrap-over.ensures at c.quick_test.ensures in
    let is = quick_said c.requires.0 tested in
    let line = c.quick_line.ensures in
    (rw (ap (said quick_line) is) at line.0, line.1, tested.memory)
