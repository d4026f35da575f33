-- As many records begin with S as the mode has switches. Assumes nothing.
use mathlib.Core.List.{List}
use Prim.Native.Nat.{ℕ}
use native.Mathlib.Omega.{arith}
use Rattle.place.proofs.Counting.{some_within, switches_counted}
use Rattle.place.proofs.AcceptedSheet.switches_at.Goals as goal

pub slice_bounds-leading-count : goal.slice_bounds-leading-count
slice_bounds-leading-count c = let some = c.requires in
    omega (arith, c.switches_from.ensures some.k some.j some.there, some_within c.args.self.now.bytes.now c.args.self.now.accepted c.args.self.now.are_bytes c.args.p some)

pub slice_bounds-leading-start : goal.slice_bounds-leading-start
slice_bounds-leading-start c = let some = c.requires in
    omega (arith, c.switches_from.ensures some.k some.j some.there, some_within c.args.self.now.bytes.now c.args.self.now.accepted c.args.self.now.are_bytes c.args.p some)

pub returns : goal.returns
returns c = let bs : List ℕ = c.args.self.now.bytes.now in
    switches_counted bs c.args.self.now.accepted c.args.self.now.are_bytes c.args.p c.requires _ c.switches_from.ensures _ c.leading.ensures.here c.leading.ensures.ends
