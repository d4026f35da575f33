-- `Line::put_decimal` writes what the library makes of a number, which is its decimal digits. Assumes nothing.
use mathlib.Core.Path.{◌≡◌, ◌∙◌, ap}
use native.Mathlib.Omega.{arith}
use lib.ListN.{length}
use Rattle.lines.specs.Decimal.{decimal}
use Rattle.writing.proofs.Writing.{decimal_printed}
use Rattle.writing.proofs.Line.put_decimal.Goals.{After-as_bytes}
use Rattle.writing.proofs.Line.put_decimal.Goals as goal

-- the digits that the library has written, of whatever is shown to be the number
text : (c : After-as_bytes) → c.as_bytes.result.now ≡ decimal c.args.n
text c = c.as_bytes.ensures.value ∙ c.format.ensures.text ∙ decimal_printed _ (omega arith) ∙ ap decimal (omega arith)

pub put-requires : goal.put-requires
put-requires c = omega (arith, ap length (text c))

pub returns : goal.returns
returns c = rw (text (goal.at.returns c).After-as_bytes) at c.put.ensures
