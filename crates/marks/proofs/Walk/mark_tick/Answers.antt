-- `mark_tick` marks what the modes lead to that are marked at tick t: those below k are followed. Assumes nothing.
use Rattle.marks.proofs.Markings.{walked_kept, tick_later, tick_on, tick_off}
use native.Mathlib.Omega.{arith}
use mathlib.Core.Path.{sym, ◌∙◌}
use Rattle.marks.proofs.Walk.mark_tick.Goals.{then-is_marked, else-is_marked}
use Rattle.marks.proofs.Walk.mark_tick.Goals as goal

pub mark_mode-requires : goal.mark_mode-requires
mark_mode-requires c = let ok = c.args.self.now.walkable in (omega arith, walked_kept _ ok (λ j x a. omega (arith, tick_later _ _ _ ok _ _ (omega arith) j x a)) c.loop-k.invariant c.requires)

pub loop-k-preserved : goal.loop-k-preserved
loop-k-preserved c = let l = c.loop-k in
    let ok = c.args.self.now.walkable in
    let row = c.requires.room in
    elim c.if-is_marked.branch [
      | then-is_marked w ↦ rw w.bits-is (tick_on _ _ _ ok (omega (arith, row.within, ok.most)) l.k (omega arith) (sym c.is_marked.ensures ∙ w.if-is_marked.true) l.invariant w.mark_mode.ensures)
      | else-is_marked w ↦ rw w.bits-is (tick_off _ _ _ ok (omega (arith, row.within, ok.most)) l.k (omega arith) (sym c.is_marked.ensures ∙ w.if-is_marked.false) l.invariant)
    ]
