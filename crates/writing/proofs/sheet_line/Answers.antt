-- `sheet_line` writes the line of the counts and the horizon. Assumes nothing.
use mathlib.Core.Path.{refl}
use mathlib.Core.List.{append_assoc}
use Rattle.std.proofs.Common.{rules}
use Rattle.lines.specs.Lines.{sheet_line_of}
use Rattle.writing.proofs.Writing.{wrote_more, wrote_line}
use Rattle.writing.proofs.sheet_line.Goals as goal

pub returns : goal.returns
unfolding sheet_line_of
returns c = wrote_line (wrote_more c.put_number.ensures (wrote_more c.put_number-2.ensures (wrote_more c.put_number-3.ensures (wrote_more c.put_number-4.ensures (wrote_more c.put_number-5.ensures c.put.ensures))))) (simp append_assoc refl) (search rules)
