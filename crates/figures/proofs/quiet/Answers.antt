-- `quiet` counts up to the lowest set digit of what is left of the word. Assumes nothing.
use Rattle.figures.proofs.Bits.{quiet_of}
use Rattle.figures.proofs.quiet.Goals as goal

pub returns : goal.returns
returns c = quiet_of _ _ _ _ c.min.ensures
