use mathlib.Core.Path.{◌≡◌}
use Prim.Native.Nat.{◌+◌, ◌%◌}
use lib.ListN.{length}
use Rattle.figures.specs.Offers.{Took, Below, TimeOffer}
use Rattle.figures.proofs.Offers.walk_times.Given as goal

abbrev pub invariant-loop-d : goal.invariant-loop-d
invariant-loop-d g l =
    let ends = g.T.Takes.ends l.to in
    (l.d % l.every ≡ l.offset) × (l.x ≡ (l.d + l.self.l) % length l.self.part.now)
    × Took ends (Below (TimeOffer l.self.part.now l.self.bits.now l.self.k ends.lo l.self.l l.offset l.every) l.d) l.initial.row l.row
