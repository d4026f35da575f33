-- `releases` adds what all tasks gain: those below i are added. Partial sums stay below the whole, which fits. Assumes nothing.
use Prim.Native.Nat.{◌+◌, ◌/◌}
use native.Mathlib.Omega.{arith}
use lib.ListN.{length}
use Rattle.layers.specs.Step.{look}
use Rattle.layers.proofs.Walks.{moved_none, moved_more, moved_value, gained_none, gained_more, gained_grows}
use Rattle.layers.proofs.releases.Goals as goal

pub loop-i-init : goal.loop-i-init
loop-i-init c = moved_none _ _ (gained_none _ _ _)

pub release-requires-clause-by_index : goal.release-requires-clause-by_index
release-requires-clause-by_index c = let j = c.loop-i in
    let ts = c.args.tasks.now in
    let l = c.args.l in
    let n = c.args.n in λ d h. omega (arith, moved_value j.invariant d h, c.requires.by_index d (omega (arith, j.invariant.len)), gained_more ts l n j.i d (look c.args.part.now d), gained_grows ts l n d (look c.args.part.now d) (j.i + 1) (length ts / 4) (omega arith))

pub loop-i-preserved : goal.loop-i-preserved
loop-i-preserved c = moved_more _ _ _ _ _ _ (gained_more _ _ _ _) c.loop-i.invariant c.release.ensures
