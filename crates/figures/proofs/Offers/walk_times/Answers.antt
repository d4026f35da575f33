-- `walk_times` offers at the mode times that leave the offset: so far at those before d, whose number stands at x. Assumes nothing.
use mathlib.Core.Path.{◌∙◌}
use Prim.Native.Nat.{◌+◌}
use native.Mathlib.Nat.{add-mod_right}
use native.Mathlib.Omega.{arith}
use Rattle.layers.proofs.Turns.{turn_on}
use Rattle.figures.proofs.Offered.{times_more, times_end}
use Rattle.figures.proofs.Offers.walk_times.Goals as goal

pub loop-d-preserved : goal.loop-d-preserved
loop-d-preserved g c =
    let j = c.loop-d in
    let ends = g.T.Takes.ends c.args.to.now in (
      add-mod_right j.d _ ∙ j.invariant.0,
      turn_on _ j.d _ _ _ _ j.invariant.1 c.rest-x-in-loop-d.ensures,
      times_more ends _ _ _ _ _ _ _ _ j.d j.x _ _ (omega arith) j.invariant.0 j.invariant.1 (omega arith) j.invariant.2 c.offer.ensures,
    )

-- the last of them is one from which a step leads past the part
pub returns-2 : goal.returns-2
returns-2 g c =
    let j = c.loop-d in
    let ends = g.T.Takes.ends c.args.to.now in
    times_end ends _ _ _ _ _ _ _ _ (j.d + c.args.every) _ (omega arith)
    (times_more ends _ _ _ _ _ _ _ _ j.d j.x _ _ (omega arith) j.invariant.0 j.invariant.1 (omega arith) j.invariant.2 c.offer.ensures)
