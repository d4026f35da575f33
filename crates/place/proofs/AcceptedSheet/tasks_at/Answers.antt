-- As many records begin with T as the mode has tasks. Assumes nothing.
use mathlib.Core.List.{List}
use Prim.Native.Nat.{ℕ}
use native.Mathlib.Omega.{arith}
use Rattle.place.proofs.Counting.{some_within, tasks_counted}
use Rattle.place.proofs.AcceptedSheet.tasks_at.Goals as goal

pub overflow_add-p : goal.overflow_add-p
overflow_add-p c = omega (arith, some_within c.args.self.now.bytes.now c.args.self.now.accepted c.args.self.now.are_bytes c.args.p c.requires)

pub slice_bounds-leading-count : goal.slice_bounds-leading-count
slice_bounds-leading-count c = omega (arith, some_within c.args.self.now.bytes.now c.args.self.now.accepted c.args.self.now.are_bytes c.args.p c.requires)

pub slice_bounds-leading-start : goal.slice_bounds-leading-start
slice_bounds-leading-start c = omega (arith, some_within c.args.self.now.bytes.now c.args.self.now.accepted c.args.self.now.are_bytes c.args.p c.requires)

pub returns : goal.returns
returns c = let bs : List ℕ = c.args.self.now.bytes.now in
    tasks_counted bs c.args.self.now.accepted c.args.self.now.are_bytes c.args.p c.requires _ c.leading.ensures.here c.leading.ensures.ends
