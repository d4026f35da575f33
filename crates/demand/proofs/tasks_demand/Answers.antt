-- The sum over the tasks of the mode, of which there are at most 16. Assumes nothing.
use mathlib.Core.List.{List}
use Prim.Native.Nat.{ℕ}
use native.Mathlib.Omega.{arith}
use Rattle.place.specs.Numbers.{task_of}
use Rattle.demand.proofs.Tasks.{task_within, task_countable, summed_none, sum_fits, summed_more, summed_all}
use Rattle.demand.proofs.tasks_demand.Goals as goal

pub loop-i-init : goal.loop-i-init
loop-i-init c = let bs : List ℕ = c.args.sheet.now.bytes.now in
    summed_none (record { accepted = c.args.sheet.now.accepted; bytes = c.args.sheet.now.are_bytes; some = c.requires.some_mode; count = c.tasks_at-n.ensures })

pub overflow_add-p : goal.overflow_add-p
overflow_add-p c = omega (arith, task_within c.loop-i.invariant.tasks _ c.loop-i-test.true)

pub overflow_mul-i : goal.overflow_mul-i
overflow_mul-i c = omega (arith, task_within c.loop-i.invariant.tasks _ c.loop-i-test.true)

pub overflow_add-p-in-loop-i : goal.overflow_add-p-in-loop-i
overflow_add-p-in-loop-i c = omega (arith, task_within c.loop-i.invariant.tasks _ c.loop-i-test.true)

pub task_at-task-requires : goal.task_at-task-requires
task_at-task-requires c = task_within c.loop-i.invariant.tasks _ c.loop-i-test.true

pub task_demand-demand-requires-clause-countable : goal.task_demand-demand-requires-clause-countable
task_demand-demand-requires-clause-countable c = task_countable c.loop-i.invariant.tasks _ c.loop-i-test.true _ c.task_at-task.ensures

pub overflow_add-demand : goal.overflow_add-demand
overflow_add-demand c = record { fits = sum_fits c.loop-i.invariant c.loop-i-test.true _ c.task_demand-demand.ensures.bound }

pub loop-i-preserved : goal.loop-i-preserved
loop-i-preserved c = summed_more c.loop-i.invariant c.loop-i-test.true (task_of c.task_at-task.result) c.task_at-task.ensures _ c.task_demand-demand.ensures

pub returns : goal.returns
returns c = summed_all c.loop-i.invariant (omega (arith, c.loop-i.auto.i-end, c.loop-i-test.false))
