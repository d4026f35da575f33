use mathlib.Core.Path.{◌≡◌}
use Prim.Native.Nat.{ℕ}
use Rattle.model.specs.Verdict.{exact_from}
use Rattle.cells.specs.Cells.{Holding}
use Rattle.cells.proofs.Searching.{later}
use Rattle.cells.proofs.first_in_tile.Given as goal

abbrev pub invariant-loop-i : goal.invariant-loop-i
invariant-loop-i l = (f : ℕ → ℕ → ℕ) → Holding f l.work l.lo l.width → exact_from f l.width l.lo ≡ later f l.lo l.width l.i
