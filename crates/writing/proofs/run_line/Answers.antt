-- `run_line` writes the line of a module's number and tape. Assumes nothing.
use mathlib.Core.Path.{refl}
use mathlib.Core.List.{append_assoc}
use native.Mathlib.Omega.{arith}
use lib.ListN.{length-map}
use Rattle.std.proofs.Common.{rules}
use Rattle.lines.specs.Lines.{run_line}
use Rattle.lines.specs.Decimal.{digit}
use Rattle.writing.proofs.Lengths.{run_count}
use Rattle.writing.proofs.Writing.{wrote_more, wrote_line}
use Rattle.writing.proofs.run_line.Goals as goal

pub put-requires-2 : goal.put-requires-2
put-requires-2 c = let args = c.args in omega (arith, run_count args.k args.tape.now, length-map args.tape.now digit)

pub returns : goal.returns
unfolding run_line
returns c = wrote_line (wrote_more c.put_number.ensures (wrote_more c.put.ensures (wrote_more c.put_tape.ensures c.put-2.ensures))) (simp append_assoc refl) (search rules)
