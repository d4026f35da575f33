use Rattle.layers.specs.Step.{look, period, total}
use lib.ListN.{length}
use Prim.Native.Nat.{ℕ, ◌+◌, ◌%◌, ◌<◌}
use mathlib.Core.Path.{◌≡◌}
use Rattle.layers.proofs.heads.Given as goal

abbrev pub invariant-loop-k : goal.invariant-loop-k
invariant-loop-k l = (l.from ≡ total l.shape.periods l.k) × (length l.found ≡ 8) × ((j : ℕ) → j < l.k → look l.found j ≡ look l.layer (total l.shape.periods j + l.n % period l.shape j))
