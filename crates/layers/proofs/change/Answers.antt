-- `change` changes the positions that leave the start, and no others: the walk has changed those behind x and none ahead. Assumes nothing.
use native.Mathlib.Omega.{arith}
use mathlib.Core.Path.{sym, subst}
use Prim.Native.Nat.{ℕ}
use Rattle.layers.proofs.Walks.{walk_start, walk_step, walk_end}
use Rattle.layers.proofs.change.Goals as goal

pub loop-x-init : goal.loop-x-init
loop-x-init g c = walk_start _ _ _ _ c.requires.start_lt_every

pub f-requires : goal.f-requires
f-requires g c = let l = c.loop-x in subst (λ (y : ℕ). goal.F-pre g c.args.f y) (sym (l.invariant.ahead l.x (omega arith) (omega arith))) (c.requires.by_index l.x (omega arith) l.invariant.here)

pub loop-x-preserved : goal.loop-x-preserved
loop-x-preserved g c = let l = c.loop-x in walk_step _ _ _ _ l.part l.x _ (omega arith) c.f.ensures (omega arith) l.invariant

pub returns : goal.returns
returns g c = walk_end _ _ _ _ _ _ (omega arith) c.loop-x.invariant
