-- The module's `offer` offers for all modes: so far for those before k. Assumes nothing.
use native.Mathlib.Omega.{arith}
use Rattle.layers.specs.Step.{look}
use Rattle.layers.proofs.Sums.{sum_before}
use Rattle.layers.proofs.Layers.{told_ready, told_room}
use Rattle.figures.proofs.Raises.{took_next, took_at}
use Rattle.figures.proofs.ModuleLayer.offer.Goals as goal

pub offer_mode-from-requires : goal.offer_mode-from-requires
offer_mode-from-requires g c =
    let s = c.args.self.now.shape.now in
    let j = c.loop-k in
    let y = c.requires.0 in
    let ready = told_ready y.owner y.rule _ _ y.told in
    let room = told_room y.owner y.rule _ _ y.told _ _ _ y.layer in
    let before = sum_before (look s.periods) j.k s.modes (omega arith) in (
      omega (arith, ready.few),
      j.invariant.0,
      omega (arith, before, room),
      ready.each j.k (omega arith),
      omega (arith, j.invariant.1.len),
    )

pub loop-k-preserved : goal.loop-k-preserved
loop-k-preserved g c = let r = c.offer_mode-from.ensures in (r.0, took_next (g.T.Takes.ends c.args.to.now) _ _ _ _ _ c.loop-k.invariant.1 r.1)

pub returns : goal.returns
returns g c = took_at (g.T.Takes.ends c.args.to.now) _ _ _ _ _ (omega arith) c.loop-k.invariant.1
