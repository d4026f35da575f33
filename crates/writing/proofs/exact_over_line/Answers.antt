-- `exact_over_line` writes the line of the exact test that says over. Assumes nothing.
use mathlib.Core.Path.{refl}
use mathlib.Core.List.{append_assoc}
use Rattle.std.proofs.Common.{rules}
use Rattle.lines.specs.Lines.{exact_line}
use Rattle.writing.proofs.Writing.{wrote_more, wrote_line}
use Rattle.writing.proofs.exact_over_line.Goals as goal

pub returns : goal.returns
unfolding exact_line
returns c = wrote_line (wrote_more c.put_number.ensures (wrote_more c.put_number-2.ensures (wrote_more c.put_number-3.ensures c.put.ensures))) (simp append_assoc refl) (search rules)
