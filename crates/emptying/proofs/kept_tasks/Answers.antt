-- `kept_tasks` lays the numbers of the kept modes end to end: those of the modes below k are laid. Assumes nothing.
use native.Mathlib.Omega.{arith}
use Rattle.emptying.proofs.Laying.{laid_more, Read, read}
use Rattle.emptying.proofs.kept_tasks.Goals.{Joined-kept-k, then-kept-k, else-kept-k}
use Rattle.emptying.proofs.kept_tasks.Goals as goal

-- what is read of the mode
known : (c : Joined-kept-k) → Read c.args.shape c.args.numbers.now c.args.kept.now c.loop-k.k c.if-kept-k.to
known c =
    let c = c in
    read c.requires.tells c.args.kept.now c.loop-k.k c.loop-k-test.true c.if-kept-k.to (elim c.if-kept-k.branch [
      | then-kept-k w ↦ rw w.if-kept-k.true w.to-is
      | else-kept-k w ↦ rw w.if-kept-k.false w.to-is
    ])

pub put_numbers-at-requires : goal.put_numbers-at-requires
put_numbers-at-requires c = let l = c.loop-k in (omega (arith, l.invariant.most, (known (goal.at.put_numbers-at-requires c).Joined-kept-k).short), l.invariant.long)

pub loop-k-preserved : goal.loop-k-preserved
loop-k-preserved c = let l = c.loop-k in
    let now = known (goal.at.loop-k-preserved c).Joined-kept-k in
    laid_more l.invariant c.loop-k-test.true _ now.part now.short _ c.put_numbers-at.ensures.0 _ c.put_numbers-at.ensures.1
