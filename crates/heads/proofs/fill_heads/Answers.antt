-- `fill_heads` goes from the last tick back: the heads from tick t on are there. Assumes nothing.
use mathlib.Core.Path.{◌≡◌, subst}
use Prim.Native.Nat.{ℕ, ◌+◌, ◌-◌}
use native.Mathlib.Omega.{arith}
use Rattle.heads.specs.Heads.{BackTo}
use Rattle.heads.proofs.Backward.{kept_none, kept_more}
use Rattle.heads.proofs.fill_heads.Goals as goal

pub loop-t-init : goal.loop-t-init
loop-t-init c = (c.begin_at.ensures.0, kept_none _)

pub back_to-requires : goal.back_to-requires
back_to-requires c = let p = c.requires in
    let a = c.args in
    let t = c.loop-t.t in
    let up : t ≡ t - 1 + 1 = omega arith in
    (p.0, omega arith, p.1, omega (arith, c.loop-t.invariant.1.len, c.begin_at.ensures.1.len), subst (λ (n : ℕ). BackTo a.shape a.numbers.now a.a a.b n c.loop-t.work) up c.loop-t.invariant.0)

pub loop-t-preserved : goal.loop-t-preserved
loop-t-preserved c = (c.back_to.ensures.0, kept_more _ _ _ c.loop-t.invariant.1 c.back_to.ensures.1)

pub returns : goal.returns
returns c = let t = c.loop-t.t in
    let z : t ≡ 0 = omega arith in
    (λ m ok told u low high. c.loop-t.invariant.0.heads m ok told u (omega arith) high, kept_more _ _ _ c.begin_at.ensures.1 c.loop-t.invariant.1)
