-- `turn` is one tick of a walk along a stay. Assumes nothing.
use native.Mathlib.Omega.{arith}
use Rattle.tapes.proofs.Fork.turn.Goals as goal

pub returns : goal.returns
returns c = λ m ok told.
    let g = c.gain_at.ensures.1 m ok told in
    let o = c.offers.ensures.1 m ok told in
    let l = c.max-best.ensures in
    grind arith
