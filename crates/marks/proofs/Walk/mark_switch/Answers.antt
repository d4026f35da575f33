-- `mark_switch` marks the strides of a switch: those below i are marked, and n of them fit into the stay and the horizon. Assumes nothing.
use mathlib.Core.Path.{ap}
use Prim.Native.Nat.{ℕ, ◌/◌}
use native.Mathlib.Omega.{arith}
use Rattle.layers.specs.Step.{every}
use Rattle.marks.proofs.Markings.{switch_laid, switch_start, switch_more, switch_end}
use Rattle.marks.proofs.Walk.mark_switch.Goals as goal

pub loop-i-init : goal.loop-i-init
loop-i-init c = let pre = c.requires in
    let walk = c.args.self.now in
    let positive = walk.walkable.switches _ _ pre.0 pre.1 pre.2 in
    let laid = switch_laid _ _ _ _ _ _ pre.0 pre.1 pre.2 pre.3 in
    let n = ap (λ (x : ℕ). x / every walk.shape c.args.k c.args.j) c.min.ensures in
    let r = c.first_stride-i.ensures in
    (omega (arith, r.1), switch_start _ _ _ walk.horizon _ c.args.k _ _ _ positive n laid r.1 r.2)

pub loop-i-preserved : goal.loop-i-preserved
loop-i-preserved c = (omega arith, switch_more _ _ _ _ (omega arith) c.loop-i.invariant.1 c.mark.ensures)

pub returns-2 : goal.returns-2
returns-2 c = let pre = c.requires in
    let walk = c.args.self.now in
    let positive = walk.walkable.switches _ _ pre.0 pre.1 pre.2 in
    let n = ap (λ (x : ℕ). x / every walk.shape c.args.k c.args.j) c.min.ensures in
    switch_end _ _ _ _ _ _ positive pre.3.room.within (omega arith) (switch_more _ _ _ _ (omega arith) c.loop-i.invariant.1 c.mark.ensures)
