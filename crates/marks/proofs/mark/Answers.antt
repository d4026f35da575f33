-- `mark` sets one bit: the mark of mode k at tick t is made, and every other is as it was. Assumes nothing.
use native.Mathlib.Omega.{arith}
use Rattle.marks.proofs.Markings.{mark_one}
use Rattle.marks.proofs.Bits.{shifted_one}
use Rattle.marks.proofs.mark.Goals as goal

pub returns : goal.returns
returns c = mark_one _ _ _ _ (shifted_one _ (omega arith)) (omega arith) (omega arith) (omega arith)
