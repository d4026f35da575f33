-- `heads` copies the number of mode time 0 of each mode's part: those below k are copied. Assumes nothing.
use Rattle.layers.proofs.Sums.{sum_before}
use Rattle.layers.proofs.Parts.{filled}
use Rattle.layers.specs.Step.{look, period, total}
use lib.ListN.{length}
use native.Mathlib.Omega.{arith}
use native.Mathlib.Numerals.{add-one}
use native.Mathlib.Nat.{mod-lt}
use Prim.Native.Nat.{ℕ, ◌+◌, ◌%◌, ◌≤◌, ◌<◌}
use mathlib.Core.Path.{ap}
use lib.ListN.{length-set}
use Rattle.layers.proofs.heads.Goals.{In-loop-k}
use Rattle.layers.proofs.heads.Goals as goal

-- the mode's part lies in the layer, and the turned place in the part
room : (c : In-loop-k) → (c.loop-k.from + period c.args.shape c.loop-k.k ≤ length c.args.layer.now) × (c.args.n % period c.args.shape c.loop-k.k < period c.args.shape c.loop-k.k)
room c =
    let l = c.loop-k in
    (omega (arith, sum_before (look c.args.shape.periods) l.k c.args.shape.modes (omega arith)), mod-lt c.args.n (c.requires.2 l.k (omega arith)))

pub overflow_add-found : goal.overflow_add-found
overflow_add-found c = omega (arith, room (goal.at.overflow_add-found c).In-loop-k)

pub offset_bounds-layer-from : goal.offset_bounds-layer-from
offset_bounds-layer-from c = omega (arith, room (goal.at.offset_bounds-layer-from c).In-loop-k)

pub bounds-layer-from : goal.bounds-layer-from
bounds-layer-from c = omega (arith, room (goal.at.bounds-layer-from c).In-loop-k)

pub overflow_add-from : goal.overflow_add-from
overflow_add-from c = omega (arith, room (goal.at.overflow_add-from c).In-loop-k)

pub loop-k-preserved : goal.loop-k-preserved
loop-k-preserved c = let l = c.loop-k in let a = c.args in (rw (add-one l.k) (omega arith), simp length-set l.invariant.1, filled (λ j. look a.layer.now (total a.shape.periods j + a.n % period a.shape j)) l.found l.k _ (omega arith) (ap (λ (x : ℕ). look a.layer.now (x + a.n % period a.shape l.k)) l.invariant.0) l.invariant.2)
