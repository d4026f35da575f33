-- The tasks of the mode end within the bytes, and the switches stand behind them. Assumes nothing.
use mathlib.Core.List.{List}
use Prim.Native.Nat.{ℕ}
use native.Mathlib.Omega.{arith}
use Rattle.place.proofs.Counting.{some_within}
use Rattle.place.proofs.AcceptedSheet.switches_from.Goals as goal

pub overflow_add-result : goal.overflow_add-result
overflow_add-result c = let bs : List ℕ = c.args.self.now.bytes.now in
    omega (arith, some_within bs c.args.self.now.accepted c.args.self.now.are_bytes c.args.p c.requires)

pub overflow_mul-result : goal.overflow_mul-result
overflow_mul-result c = let bs : List ℕ = c.args.self.now.bytes.now in
    let some = c.requires in
    omega (arith, c.tasks_at.ensures some.k some.j some.there, some_within bs c.args.self.now.accepted c.args.self.now.are_bytes c.args.p some)

pub overflow_add-result-2 : goal.overflow_add-result-2
overflow_add-result-2 c = let bs : List ℕ = c.args.self.now.bytes.now in
    let some = c.requires in
    omega (arith, c.tasks_at.ensures some.k some.j some.there, some_within bs c.args.self.now.accepted c.args.self.now.are_bytes c.args.p some)
