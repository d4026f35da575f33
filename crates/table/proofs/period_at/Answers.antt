-- The field of MD is the mode's period; past the modes stands 0. Assumes nothing.
use mathlib.Core.List.{List}
use mathlib.Core.Path.{◌∙◌}
use Prim.Native.Nat.{ℕ}
use native.Mathlib.Omega.{arith}
use Rattle.place.proofs.Counting.{some_within}
use Rattle.table.proofs.Entering.{period_there}
use Rattle.table.proofs.period_at.Goals as goal

pub overflow_add-q : goal.overflow_add-q
overflow_add-q c = let bs : List ℕ = c.args.sheet.now.bytes.now in
    let some = c.requires in
    omega (arith, some_within bs c.args.sheet.now.accepted c.args.sheet.now.are_bytes _ (record { k = some.k; j = c.args.j; there = c.in-Some.ensures some.k some.there }))

pub field-requires : goal.field-requires
field-requires c = let bs : List ℕ = c.args.sheet.now.bytes.now in
    let some = c.requires in
    omega (arith, some_within bs c.args.sheet.now.accepted c.args.sheet.now.are_bytes _ (record { k = some.k; j = c.args.j; there = c.in-Some.ensures some.k some.there }))

pub returns-in-Some : goal.returns-in-Some
returns-in-Some c = let bs : List ℕ = c.args.sheet.now.bytes.now in
    λ k h. c.field.ensures ∙ period_there bs c.args.sheet.now.accepted c.args.sheet.now.are_bytes k c.args.j _ (c.in-Some.ensures k h)
