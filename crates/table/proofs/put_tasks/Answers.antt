-- The numbers of a mode stand in the bytes in their order, and are written one after the other. Assumes nothing.
use mathlib.Core.List.{List}
use Prim.Native.Nat.{ℕ}
use native.Mathlib.Omega.{arith}
use Rattle.table.proofs.Putting.{tasks_small, put_none, put_more, put_all}
use Rattle.table.proofs.put_tasks.Goals as goal

pub overflow_mul-i-end : goal.overflow_mul-i-end
overflow_mul-i-end c = omega (arith, tasks_small c.args.sheet.now.bytes.now c.args.sheet.now.accepted c.args.p _ c.requires.some_mode c.tasks_at-i-end.ensures)

pub loop-i-init : goal.loop-i-init
loop-i-init c = let bs : List ℕ = c.args.sheet.now.bytes.now in
    put_none bs c.args.sheet.now.accepted c.args.sheet.now.are_bytes c.args.p _ _ _ c.requires.some_mode c.tasks_at-i-end.ensures

pub loop-i-preserved : goal.loop-i-preserved
loop-i-preserved c = let bs : List ℕ = c.args.sheet.now.bytes.now in
    put_more c.loop-i.invariant c.args.sheet.now.accepted c.args.sheet.now.are_bytes (omega arith) c.loop-i-test.true _ c.field.ensures

pub returns : goal.returns
returns c = put_all c.loop-i.invariant (omega arith)
