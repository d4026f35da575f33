use mathlib.Core.Path.{◌≡◌}
use Prim.Native.Nat.{◌<◌}
use Rattle.model.specs.Lists.{max_below}
use Rattle.tapes.specs.Forks.{AtFork, offer_of}
use Rattle.tapes.proofs.Fork.offers.Given as goal

abbrev pub invariant-loop-j : goal.invariant-loop-j
invariant-loop-j l = (l.top < 65536) × AtFork l.self (λ m. l.top ≡ max_below (offer_of l.self m) l.j)
