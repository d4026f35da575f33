-- `quick_over_line` writes the line of the quick test that says over. Assumes nothing.
use mathlib.Core.Path.{refl}
use mathlib.Core.List.{append_assoc}
use Rattle.std.proofs.Common.{rules}
use Rattle.lines.specs.Lines.{quick_line}
use Rattle.writing.proofs.Writing.{wrote_more, wrote_line}
use Rattle.writing.proofs.quick_over_line.Goals as goal

pub returns : goal.returns
unfolding quick_line
returns c = wrote_line (wrote_more c.put_number.ensures (wrote_more c.put_number-2.ensures c.put.ensures)) (simp append_assoc refl) (search rules)
