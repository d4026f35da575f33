-- `follow` follows the marks tick by tick: whatever a mark before tick t leads to is marked, and all marks are entries. Assumes nothing.
use Rattle.marks.proofs.Walking.{kept_more, followed_more}
use Rattle.marks.proofs.Markings.{tick_unmarked}
use native.Mathlib.Omega.{arith}
use Rattle.marks.proofs.Walk.follow.Goals.{then-is_any_marked, else-is_any_marked}
use Rattle.marks.proofs.Walk.follow.Goals as goal

pub loop-t-preserved : goal.loop-t-preserved
loop-t-preserved c = let ok = c.args.self.now.walkable in
    let l = c.loop-t in
    elim c.if-is_any_marked.branch [
      | then-is_any_marked w ↦ let marks = w.mark_tick.ensures in rw w.bits-is (kept_more l.invariant.0 marks, followed_more _ _ _ ok (omega arith) marks l.invariant.1)
      | else-is_any_marked w ↦ let marks = tick_unmarked _ c.args.self.now.horizon l.t l.bits (c.is_any_marked.ensures w.if-is_any_marked.false) in rw w.bits-is (kept_more l.invariant.0 marks, followed_more _ _ _ ok (omega arith) marks l.invariant.1)
    ]
