-- `gain_at` is what a state gains. Assumes nothing.
use mathlib.Core.Path.{◌≡◌, ◌∙◌}
use Prim.Native.Nat.{◌+◌}
use native.Mathlib.Omega.{arith}
use lib.ListN.{length-take}
use mir.Val.{Fits}
use mir.Syntax.{w16}
use borrow.Author.Rules.{rules}
use Rattle.model.specs.Run.{at, gain}
use Rattle.model.specs.WellFormed.{ModuleRule}
use Rattle.model.specs.Sheet.{Module}
use Rattle.layers.specs.Step.{look}
use Rattle.layers.specs.Layer.{Told}
use Rattle.layers.proofs.Bounds.{gain_le}
use Rattle.layers.proofs.Layers.{told_ready}
use Rattle.heads.proofs.Gains.{gain_told}
use Rattle.heads.proofs.gain_at.Goals as goal

pub gains_of-requires : goal.gains_of-requires
gains_of-requires c = let p = c.requires in
    let a = c.args in
    let f : Fits w16 (look a.shape.starts (a.k + 1)) = search rules in
    rw (c.from-from.ensures, c.from-to.ensures) (((told_ready _ p.0.rule _ _ p.0.told).each _ p.1).tasks, simp length-take (omega (arith, f.fits)))

pub returns : goal.returns
returns c = let p = c.requires in
    let a = c.args in
    let is : (m : Module) → ModuleRule m → Told m a.shape a.numbers.now → c.gains_of.result ≡ gain m (at a.k a.d) 0 a.l =
    λ m ok told. rw (c.from-from.ensures, c.from-to.ensures) at c.gains_of.ensures ∙ gain_told m _ _ told _ p.1 _ _ in
    (omega (arith, is p.0.owner p.0.rule p.0.told, gain_le p.0.owner p.0.rule (at a.k a.d) 0 a.l), is)
