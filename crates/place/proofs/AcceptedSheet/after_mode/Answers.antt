-- Behind the switches of the mode stands what follows it. Assumes nothing.
use mathlib.Core.List.{List}
use Prim.Native.Nat.{ℕ}
use native.Mathlib.Omega.{arith}
use Rattle.format.specs.Judgement.{sheet_in}
use Rattle.place.proofs.Walking.{mode_after}
use Rattle.place.proofs.Counting.{some_within}
use Rattle.place.proofs.AcceptedSheet.after_mode.Goals as goal

pub overflow_mul-result : goal.overflow_mul-result
overflow_mul-result c = let bs : List ℕ = c.args.self.now.bytes.now in
    let some = c.requires in
    omega (arith, c.switches_at.ensures some.k some.j some.there, some_within bs c.args.self.now.accepted c.args.self.now.are_bytes c.args.p some)

pub overflow_add-result : goal.overflow_add-result
overflow_add-result c = let bs : List ℕ = c.args.self.now.bytes.now in
    let some = c.requires in
    omega (
      arith,
      c.switches_from.ensures some.k some.j some.there,
      c.switches_at.ensures some.k some.j some.there,
      some_within bs c.args.self.now.accepted c.args.self.now.are_bytes c.args.p some,
    )

pub returns : goal.returns
returns c = λ k j h. mode_after (sheet_in c.args.self.now.bytes.now) c.args.p k j _ h (omega (arith, c.switches_from.ensures k j h, c.switches_at.ensures k j h))
