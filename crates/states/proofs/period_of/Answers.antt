-- The field of MD is the mode's period. Assumes nothing.
use mathlib.Core.List.{List}
use mathlib.Core.Path.{ap, ◌∙◌}
use Prim.Native.Nat.{ℕ}
use native.Mathlib.Omega.{arith}
use lib.ListN.{get_or}
use Rattle.format.specs.Record.{fields_of}
use Rattle.place.proofs.Standing.{mode_record, mode_within}
use Rattle.states.proofs.period_of.Goals as goal

pub overflow_add-p : goal.overflow_add-p
overflow_add-p c = let bs : List ℕ = c.args.sheet.now.bytes.now in
    omega (arith, mode_within bs c.args.sheet.now.accepted c.args.sheet.now.are_bytes c.args.k c.requires.k_bound c.args.j c.requires.j_bound)

pub field-requires : goal.field-requires
field-requires c = let bs : List ℕ = c.args.sheet.now.bytes.now in
    omega (arith, mode_within bs c.args.sheet.now.accepted c.args.sheet.now.are_bytes c.args.k c.requires.k_bound c.args.j c.requires.j_bound)

pub returns : goal.returns
returns c = let bs : List ℕ = c.args.sheet.now.bytes.now in
    c.field.ensures ∙ rw c.mode_place-p.ensures (ap (λ r. get_or (fields_of r) 0 0) (mode_record bs c.args.sheet.now.accepted c.args.sheet.now.are_bytes c.args.k c.requires.k_bound c.args.j c.requires.j_bound))
