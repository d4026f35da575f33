-- `walk` offers for all tasks of a mode: so far for those before j. Assumes nothing.
use Rattle.figures.proofs.Raises.{took_none, took_next}
use Rattle.figures.proofs.Offers.walk.Goals as goal

pub loop-j-preserved : goal.loop-j-preserved
loop-j-preserved g c = took_next (g.T.Takes.ends c.args.to.now) _ _ _ _ _ c.loop-j.invariant c.walk_task.ensures

-- none of what the mode offers is for these ends
pub returns-else-concerns : goal.returns-else-concerns
returns-else-concerns g c = took_none (g.T.Takes.ends c.args.to.now) _ _ (c.concerns.ensures c.if-concerns.false)
