-- `first_at_end` passes the lengths that are not in question and those whose cells do not exceed them. Assumes nothing.
use mathlib.Core.Path.{sym}
use Prim.Native.Nat.{◌<◌}
use native.Mathlib.Omega.{arith}
use Rattle.model.specs.Limits.{work_numbers}
use Rattle.cells.proofs.Searching.{passed_none, passed_all, passed_other, passed_inside, passed_cell, passed_here}
use Rattle.cells.proofs.first_at_end.Goals.{Then-in_question, then-in_question+else-l-sum, else-in_question}
use Rattle.cells.proofs.first_at_end.Goals as goal

-- the cell of a length in question is one of the cells
inside : (c : Then-in_question) → c.loop-l.at < work_numbers
inside c = passed_inside _ _ _ _ _ _ c.loop-l.invariant c.requires.1 c.loop-l-test.true (sym c.if-in_question.ensures) c.requires.0

pub loop-l-init : goal.loop-l-init
loop-l-init c = passed_none _ _ _ _

pub offset_bounds-work-at : goal.offset_bounds-work-at
offset_bounds-work-at c = omega (arith, inside (goal.at.offset_bounds-work-at c).Then-in_question)

pub bounds-work-at : goal.bounds-work-at
bounds-work-at c = omega (arith, inside (goal.at.bounds-work-at c).Then-in_question)

pub returns-then-l-sum : goal.returns-then-l-sum
returns-then-l-sum c = passed_here _ _ _ _ _ _ c.loop-l.invariant c.requires.1 c.loop-l-test.true (sym c.if-in_question.ensures) (omega arith)

pub overflow_add-at-then-in_question : goal.overflow_add-at-then-in_question
overflow_add-at-then-in_question c = omega (arith, inside (goal.at.overflow_add-at-then-in_question c).Then-in_question)

-- a length that is not over is passed
pub loop-l-preserved : goal.loop-l-preserved
loop-l-preserved c = let h = c.requires.1 in
    let k = c.loop-l-test.true in
    elim c.if-in_question.branch [
      | then-in_question+else-l-sum w ↦ rw w.at-is (passed_cell _ _ _ _ _ _ c.loop-l.invariant h k (sym w.if-in_question.ensures) w.if-l-sum.false)
      | else-in_question w ↦ rw w.at-is (passed_other _ _ _ _ _ _ c.loop-l.invariant h k (sym w.if-in_question.ensures))
    ]

pub returns : goal.returns
returns c = passed_all _ _ _ _ _ _ c.loop-l.invariant c.loop-l-test.false
