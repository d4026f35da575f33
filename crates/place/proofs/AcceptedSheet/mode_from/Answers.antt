-- Behind i modes of the module stands its mode i. Assumes nothing.
use mathlib.Core.Path.{◌≡◌}
use mathlib.Core.List.{List}
use Prim.Native.Nat.{ℕ}
use native.Mathlib.Omega.{arith}
use Rattle.place.proofs.Walking.{module_there_within, modes_none, modes_some, modes_more}
use Rattle.place.proofs.AcceptedSheet.mode_from.Goals as goal

pub overflow_add-q : goal.overflow_add-q
overflow_add-q c = let bs : List ℕ = c.args.self.now.bytes.now in
    let some = c.requires in
    omega (arith, module_there_within bs c.args.self.now.accepted c.args.self.now.are_bytes some.k c.args.p some.there.number some.there.place)

pub loop-init : goal.loop-init
loop-init c = modes_none _ _ _

pub after_mode-q-requires : goal.after_mode-q-requires
after_mode-q-requires c = modes_some c.loop.invariant c.loop-test.true c.requires

pub loop-preserved : goal.loop-preserved
loop-preserved c = modes_more c.loop.invariant c.loop-test.true _ c.after_mode-q.ensures

pub returns : goal.returns
returns c = let all : c.loop.counter ≡ c.args.j = omega arith in rw (all) at c.loop.invariant.place
