-- `demand_at` reads the number at the state's place in the layer. Assumes nothing.
use Prim.Native.Nat.{◌+◌}
use native.Mathlib.Nat.{mod-lt}
use native.Mathlib.Omega.{arith}
use Rattle.layers.proofs.Layers.{value_told}
use Rattle.sums.proofs.Sums.{told_place}
use Rattle.sums.proofs.demand_at.Goals as goal

pub offset_bounds-layer-place : goal.offset_bounds-layer-place
offset_bounds-layer-place c = let p = c.requires in omega (arith, told_place _ _ p.4 _ _ p.2 (mod-lt (c.args.d + c.args.l) (omega arith)))

pub bounds-layer-place : goal.bounds-layer-place
bounds-layer-place c = let p = c.requires in omega (arith, told_place _ _ p.4 _ _ p.2 (mod-lt (c.args.d + c.args.l) (omega arith)))

pub returns : goal.returns
returns c = λ m ok told.
    let p = c.requires in
    rw c.place.ensures (value_told m _ _ told _ _ (c.run_to.ensures.layer m ok told) _ _ p.2 p.3)
