-- The period of the first switch that names the mode, or 0 where none does. Assumes nothing.
use mathlib.Core.List.{List}
use mathlib.Core.Path.{◌∙◌}
use Prim.Native.Nat.{ℕ}
use native.Mathlib.Omega.{arith}
use Rattle.place.proofs.Counting.{some_within}
use Rattle.table.proofs.Switching.{period_none, period_read}
use Rattle.table.proofs.period_to.Goals as goal

pub overflow_mul-i : goal.overflow_mul-i
overflow_mul-i c = let bs : List ℕ = c.args.sheet.now.bytes.now in
    let some = c.requires in
    omega (arith, c.switches_from.ensures some.k some.j some.there, (c.in-Some.ensures some.k some.j some.there).0, some_within bs c.args.sheet.now.accepted c.args.sheet.now.are_bytes c.args.p some)

pub overflow_add-switches_from : goal.overflow_add-switches_from
overflow_add-switches_from c = let bs : List ℕ = c.args.sheet.now.bytes.now in
    let some = c.requires in
    omega (arith, c.switches_from.ensures some.k some.j some.there, (c.in-Some.ensures some.k some.j some.there).0, some_within bs c.args.sheet.now.accepted c.args.sheet.now.are_bytes c.args.p some)

pub overflow_add-switches_from-in-Some : goal.overflow_add-switches_from-in-Some
overflow_add-switches_from-in-Some c = let bs : List ℕ = c.args.sheet.now.bytes.now in
    let some = c.requires in
    omega (arith, c.switches_from.ensures some.k some.j some.there, (c.in-Some.ensures some.k some.j some.there).0, some_within bs c.args.sheet.now.accepted c.args.sheet.now.are_bytes c.args.p some)

pub field-requires : goal.field-requires
field-requires c = let bs : List ℕ = c.args.sheet.now.bytes.now in
    let some = c.requires in
    omega (arith, c.switches_from.ensures some.k some.j some.there, (c.in-Some.ensures some.k some.j some.there).0, some_within bs c.args.sheet.now.accepted c.args.sheet.now.are_bytes c.args.p some)

pub returns-in-Some : goal.returns-in-Some
returns-in-Some c = let bs : List ℕ = c.args.sheet.now.bytes.now in
    λ k j h. let (l, e) = c.in-Some.ensures k j h in c.field.ensures ∙ period_read bs c.args.sheet.now.accepted c.args.sheet.now.are_bytes c.args.p _ k j h (c.switches_from.ensures k j h) c.args.t _ e l

pub returns-in-None : goal.returns-in-None
returns-in-None c = λ k j h. period_none c.args.t _ (c.in-None.ensures k j h)
