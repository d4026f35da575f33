use mathlib.Core.Path.{◌≡◌}
use Rattle.layers.specs.Step.{total}
use Rattle.figures.specs.Offers.{Took, Below, ShapeOffer}
use Rattle.figures.proofs.ModuleLayer.offer.Given as goal

abbrev pub invariant-loop-k : goal.invariant-loop-k
invariant-loop-k g l =
    let ends = g.T.Takes.ends l.to in
    (l.from ≡ total l.self.shape.now.periods l.k)
    × Took ends (Below (ShapeOffer l.self.shape.now l.self.numbers.now l.self.layer.now l.self.bits.now ends.lo l.self.l) l.k) l.initial.row l.row
