-- `refused_line` writes the line of a refusal. Assumes nothing.
use mathlib.Core.Path.{refl}
use mathlib.Core.List.{append_assoc}
use Rattle.std.proofs.Common.{rules}
use Rattle.lines.specs.Lines.{refused_line}
use Rattle.writing.proofs.Writing.{wrote_more, wrote_line}
use Rattle.writing.proofs.refused_line.Goals as goal

pub returns : goal.returns
unfolding refused_line
returns c = wrote_line (wrote_more c.put_number.ensures (wrote_more c.put_number-2.ensures c.put.ensures)) (simp append_assoc refl) (search rules)
