-- `mark_mode` marks what mode k, begun at tick t, leads to. Assumes nothing.
use Rattle.marks.proofs.Markings.{walked_kept}
use native.Mathlib.Omega.{arith}
use Rattle.marks.proofs.Walk.mark_mode.Goals as goal

pub mark_targets-requires : goal.mark_targets-requires
mark_targets-requires c = let pre = c.requires in (pre.0, walked_kept _ c.args.self.now.walkable (λ j x e. omega (arith, e.1)) c.mark_again.ensures pre.1)
