-- `add_demands` goes through the lengths from 1 to the horizon; so far each sum behind has its demand, and each ahead is as it was. Assumes nothing.
use mathlib.Core.Path.{refl}
use Prim.Native.Nat.{◌+◌}
use native.Mathlib.Omega.{arith}
use Rattle.sums.proofs.Sums.{told_states, part_size, part_start, summed_start, summed_more, summed_end}
use Rattle.sums.proofs.add_demands.Goals as goal

pub clear-requires : goal.clear-requires
clear-requires c = omega (arith, told_states _ _ c.requires.3, part_size c.args.work.now c.requires.1)

pub loop-l-init : goal.loop-l-init
loop-l-init c = (summed_start _ _ _, part_start _ _ _ c.args.work.now _ c.requires.3 c.requires.1 c.states_of.ensures c.clear.ensures)

pub add_next-requires : goal.add_next-requires
add_next-requires c = let p = c.requires in
    let l = c.loop-l in
    let done = summed_end _ _ _ _ c.args.work.now c.clear.new.layer _ refl (omega arith) p.1 c.clear.ensures.len l.invariant.0 in
    (omega arith, omega (arith, done.beside.len), omega (arith, done.beside.later (l.l + 1) (omega arith) (omega arith), p.2 (l.l + 1) (omega arith) (omega arith)), p.3, l.invariant.1)

pub loop-l-preserved : goal.loop-l-preserved
loop-l-preserved c = let new = c.add_next.ensures in
    (summed_more _ _ _ _ _ _ (omega arith) c.loop-l.invariant.0 new, new.layer)

pub returns : goal.returns
returns c = summed_end _ _ _ _ c.args.work.now c.clear.new.layer _ (omega arith) c.requires.0 c.requires.1 c.clear.ensures.len c.loop-l.invariant.0
