use Prim.Native.Nat.{◌≤◌}
use Rattle.model.specs.Limits.{work_numbers}
use Rattle.tiles.specs.Tiles.{Within}
use Rattle.search.proofs.narrow.Given as goal

abbrev pub invariant-loop-width : goal.invariant-loop-width
invariant-loop-width l = (1 ≤ l.width) × (l.width ≤ l.range.width) × (Within 0 work_numbers l.initial.work l.work)

abbrev pub decreases-loop-width : goal.decreases-loop-width
decreases-loop-width l = l.width
