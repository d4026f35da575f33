-- `mark_targets` marks the strides of the switches of mode k: those of the targets below j are marked. Assumes nothing.
use native.Mathlib.Omega.{arith}
use Rattle.marks.proofs.Markings.{walked_kept}
use Rattle.marks.proofs.Walk.mark_targets.Goals as goal

pub mark_target-requires : goal.mark_target-requires
mark_target-requires c = let pre = c.requires in
    (pre.0, omega arith, walked_kept _ c.args.self.now.walkable (λ i x o. omega (arith, o.stride.reached)) c.loop-j.invariant pre.1)
