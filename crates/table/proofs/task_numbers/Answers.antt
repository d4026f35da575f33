-- The row holds the numbers of the modes that are passed, and 0 behind them. Assumes nothing.
use native.Mathlib.Omega.{arith}
use Rattle.place.proofs.Walking.{modes_some}
use Rattle.table.proofs.Gathering.{gathered_none, gathered_more, gathered_all, modes_most, starts_count, start_here, start_room}
use Rattle.table.proofs.Starting.{within_modes}
use Rattle.table.proofs.task_numbers.Goals as goal

pub shared_ref_as_front-start-items : goal.shared_ref_as_front-start-items
shared_ref_as_front-start-items c = omega (arith, modes_most c.args.sheet.now.bytes.now c.args.sheet.now.accepted c.requires.some_module c.modes_at.ensures c.requires.starts)

pub loop-start-init : goal.loop-start-init
loop-start-init c = gathered_none c.mode_from-q.ensures

pub put_tasks-requires-clause-some_mode : goal.put_tasks-requires-clause-some_mode
put_tasks-requires-clause-some_mode c = modes_some c.loop-start.invariant.modes c.loop-start-test.true (within_modes c.requires.some_module (starts_count c.args.sheet.now.bytes.now c.args.sheet.now.accepted c.requires.some_module c.modes_at.ensures c.requires.starts) (omega arith))

pub put_tasks-requires-clause-at_bound : goal.put_tasks-requires-clause-at_bound
put_tasks-requires-clause-at_bound c = start_room c.args.sheet.now.bytes.now c.args.sheet.now.accepted c.requires.some_module c.modes_at.ensures c.requires.starts c.loop-start.start-index c.loop-start-test.true

pub after_mode-q-requires : goal.after_mode-q-requires
after_mode-q-requires c = modes_some c.loop-start.invariant.modes c.loop-start-test.true (within_modes c.requires.some_module (starts_count c.args.sheet.now.bytes.now c.args.sheet.now.accepted c.requires.some_module c.modes_at.ensures c.requires.starts) (omega arith))

pub loop-start-preserved : goal.loop-start-preserved
loop-start-preserved c = gathered_more c.loop-start.invariant c.loop-start-test.true _ c.after_mode-q.ensures _
    (start_here c.args.sheet.now.bytes.now c.args.sheet.now.accepted c.requires.some_module c.modes_at.ensures c.requires.starts c.loop-start.start-index c.loop-start-test.true) _ c.put_tasks.ensures

pub returns : goal.returns
returns c = gathered_all c.loop-start.invariant (starts_count c.args.sheet.now.bytes.now c.args.sheet.now.accepted c.requires.some_module c.modes_at.ensures c.requires.starts) (omega arith)
