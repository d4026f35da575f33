-- `reached_modes` makes the row of each round from that of the round before. Assumes nothing.
use native.Mathlib.Omega.{arith}
use Rattle.reach.proofs.Rounds.{after_none, after_more, after_all}
use Rattle.reach.proofs.reached_modes.Goals as goal

pub loop-init : goal.loop-init
loop-init c = let t = c.requires.1 in after_none (omega (arith, t.told.modes, t.rule.least))

pub round-row-requires : goal.round-row-requires
round-row-requires c = let t = c.requires.1 in omega (arith, t.told.modes, t.rule.most)

pub loop-preserved : goal.loop-preserved
loop-preserved c = after_more c.loop.invariant (omega arith) c.round-row.ensures

pub returns : goal.returns
returns c = after_all c.loop.invariant (omega arith)
