-- `step` renews the parts of all modes: those below k are renewed, and nothing else has changed. Assumes nothing.
use Rattle.layers.proofs.Sums.{sum_more, sum_before}
use Rattle.layers.proofs.Parts.{part_length, part_look, replaced, step_same, stepped_start, stepped_more}
use Rattle.layers.specs.Step.{look, period, tasks_of, stepped}
use lib.ListN.{length}
use native.Mathlib.Omega.{arith}
use Prim.Native.Nat.{ℕ, ◌+◌, ◌<◌, ◌≤◌, ◌^◌}
use mathlib.Core.Path.{refl, sym, ap, ◌∙◌, subst}
use Rattle.layers.proofs.step.Goals.{In-loop-k}
use Rattle.layers.proofs.step.Goals as goal

-- the mode's part lies in the layer
room : (c : In-loop-k) → c.loop-k.from + period c.args.shape c.loop-k.k ≤ length c.loop-k.layer
room c =
    let c = c in
    let j = c.loop-k in
    omega (arith, sum_before (look c.args.shape.periods) j.k c.args.shape.modes (omega arith), j.invariant.1.len)

pub loop-k-init : goal.loop-k-init
loop-k-init c = (refl, stepped_start _ _ _ _ _ _)

pub overflow_add-to : goal.overflow_add-to
overflow_add-to c = omega (arith, room (goal.at.overflow_add-to c).In-loop-k)

pub offset_bounds-layer-from : goal.offset_bounds-layer-from
offset_bounds-layer-from c = omega (arith, room (goal.at.offset_bounds-layer-from c).In-loop-k)

pub slice_bounds-renew-end : goal.slice_bounds-renew-end
slice_bounds-renew-end c = omega (arith, room (goal.at.slice_bounds-renew-end c).In-loop-k)

pub renew-requires-clause-by_index : goal.renew-requires-clause-by_index
renew-requires-clause-by_index c = let a = c.args in
    let j = c.loop-k in
    let sh = a.shape in
    let fits = room (goal.at.renew-requires-clause-by_index c).In-loop-k in
    let p = period sh j.k in
    let size = part_length j.layer j.from p fits in λ x h. subst (λ (v : ℕ). stepped sh.modes sh.listed sh.every j.k (tasks_of sh a.numbers.now j.k) a.heads.now a.l a.n x v < 2 ^ 32)
    (sym (part_look j.layer j.from p fits x (omega (arith, size)) ∙ ap (λ (y : ℕ). look j.layer (y + x)) j.invariant.0))
    (subst (λ (v : ℕ). v < 2 ^ 32) (sym (step_same sh a.numbers.now a.heads.now a.l a.n j.k a.layer.now j.layer j.invariant.1 x)) (c.requires.by_index j.k x (omega arith) (omega (arith, size))))

pub loop-k-preserved : goal.loop-k-preserved
loop-k-preserved c = let j = c.loop-k in
    let fits = room (goal.at.loop-k-preserved c).In-loop-k in
    (omega (arith, sum_more (look c.args.shape.periods) j.k), stepped_more _ _ _ _ _ _ _ _ _ j.invariant.1 (replaced _ _ _ _ _ j.k j.layer _ j.from j.invariant.0 fits c.renew.ensures))
