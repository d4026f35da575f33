use Prim.Native.Nat.{◌+◌, ◌-◌, ◌≤◌}
use Rattle.figures.specs.Offers.{tile_ends, Took, Below, TickOffer}
use Rattle.figures.proofs.TileTakes.offer.Given as goal

abbrev pub invariant-loop-e : goal.invariant-loop-e
invariant-loop-e l = (l.self.lo ≤ l.e + l.far)
    × Took (tile_ends l.self.lo l.self.width) (Below (TickOffer l.offers.bits.now l.offers.k l.self.lo l.far l.v) l.e) l.initial.row l.row

abbrev pub decreases-loop-e : goal.decreases-loop-e
decreases-loop-e l = l.end - l.e
