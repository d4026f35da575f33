-- `switches` offers the heads of all targets: those below t are offered. Assumes nothing.
use Rattle.layers.proofs.Walks.{moved_none, moved_more, offered_none, offered_more}
use Rattle.layers.proofs.switches.Goals as goal

pub loop-t-init : goal.loop-t-init
loop-t-init c = moved_none _ _ (offered_none _ _ _ _ _)

pub loop-t-preserved : goal.loop-t-preserved
loop-t-preserved c = moved_more _ _ _ _ _ _ (offered_more _ _ _ _ _ _) c.loop-t.invariant c.switch.ensures
