-- The field of ML is the number of modes. Assumes nothing.
use mathlib.Core.List.{List}
use mathlib.Core.Path.{◌∙◌}
use Prim.Native.Nat.{ℕ}
use native.Mathlib.Omega.{arith}
use Rattle.place.proofs.Walking.{modes_there, module_there_within}
use Rattle.place.proofs.AcceptedSheet.modes_at.Goals as goal

pub overflow_add-p : goal.overflow_add-p
overflow_add-p c = let bs : List ℕ = c.args.self.now.bytes.now in
    let some = c.requires in
    omega (arith, module_there_within bs c.args.self.now.accepted c.args.self.now.are_bytes some.k c.args.p some.there.number some.there.place)

pub field-requires : goal.field-requires
field-requires c = let bs : List ℕ = c.args.self.now.bytes.now in
    let some = c.requires in
    omega (arith, module_there_within bs c.args.self.now.accepted c.args.self.now.are_bytes some.k c.args.p some.there.number some.there.place)

pub returns : goal.returns
returns c = let bs : List ℕ = c.args.self.now.bytes.now in
    λ k h. c.field.ensures ∙ modes_there bs c.args.self.now.accepted c.args.self.now.are_bytes c.args.p k h
