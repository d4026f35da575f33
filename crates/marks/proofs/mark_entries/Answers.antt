-- `mark_entries` clears the rows, marks the first entry and follows it to the horizon. Assumes nothing.
use native.Mathlib.Omega.{arith}
use Rattle.marks.proofs.Walking.{told_walkable, followed_start, entered}
use Rattle.marks.proofs.mark_entries.Goals as goal

pub invariant_of-walk : goal.invariant_of-walk
invariant_of-walk c = let pre = c.requires in
    let t = pre.0.1 in
    record { walkable = told_walkable t.owner _ _ pre.1 t.rule t.told }

pub follow-requires : goal.follow-requires
follow-requires c = let pre = c.requires in
    let t = pre.0.1 in
    followed_start _ _ _ _ _ (omega (arith, t.told.modes, t.rule.least)) pre.1 pre.2 c.clear.ensures c.mark.ensures

pub returns : goal.returns
returns c = entered _ _ c.clear.ensures c.mark.ensures c.follow.ensures.0 c.follow.ensures.1
