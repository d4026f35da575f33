-- The tasks of the modes before a mode make as many numbers as are counted; they are at most 512. Assumes nothing.
use mathlib.Core.Path.{◌≡◌}
use native.Mathlib.Omega.{arith}
use Rattle.table.proofs.Starting.{none_of, counted_none, counted_few, counted_some, counted_tasks, counted_more}
use Rattle.table.proofs.numbers_before.Goals as goal

pub mode_from-q-requires : goal.mode_from-q-requires
mode_from-q-requires c = none_of c.requires

pub loop-init : goal.loop-init
loop-init c = counted_none c.args.sheet.now.accepted c.requires c.mode_from-q.ensures

pub tasks_at-requires : goal.tasks_at-requires
tasks_at-requires c = counted_some c.loop.invariant c.loop-test.true

pub overflow_mul-n : goal.overflow_mul-n
overflow_mul-n c = omega (arith, counted_tasks c.loop.invariant c.loop-test.true _ c.tasks_at.ensures)

pub overflow_add-n : goal.overflow_add-n
overflow_add-n c = omega (arith, counted_few c.loop.invariant (omega arith), counted_tasks c.loop.invariant c.loop-test.true _ c.tasks_at.ensures)

pub after_mode-q-requires : goal.after_mode-q-requires
after_mode-q-requires c = counted_some c.loop.invariant c.loop-test.true

pub loop-preserved : goal.loop-preserved
loop-preserved c = counted_more c.loop.invariant c.loop-test.true _ c.tasks_at.ensures _ c.after_mode-q.ensures

pub returns : goal.returns
returns c = let all : c.loop.counter ≡ c.args.j = omega arith in rw (all) at c.loop.invariant.number
