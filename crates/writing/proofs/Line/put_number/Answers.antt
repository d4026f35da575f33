-- `Line::put_number` writes a word and then a number. Assumes nothing.
use native.Mathlib.Omega.{arith}
use lib.ListN.{length-append}
use Rattle.lines.specs.Decimal.{decimal}
use Rattle.writing.proofs.Writing.{wrote_more}
use Rattle.writing.proofs.Line.put_number.Goals as goal

pub put_decimal-requires : goal.put_decimal-requires
put_decimal-requires c = omega (arith, length-append c.args.word.now (decimal c.args.n), c.put.ensures.put.ends, c.put.ensures.put.len)

pub returns : goal.returns
returns c = wrote_more c.put.ensures c.put_decimal.ensures
