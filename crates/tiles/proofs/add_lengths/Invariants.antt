use mathlib.Core.Path.{◌≡◌}
use lib.ListN.{length}
use Rattle.layers.specs.Layer.{Each}
use Rattle.cells.specs.Cells.{rows}
use Rattle.tiles.specs.Tiles.{Progress, ModuleAdded}
use Rattle.tiles.proofs.add_lengths.Given as goal

abbrev pub invariant-loop-l : goal.invariant-loop-l
invariant-loop-l l = (l.row ≡ rows l.initial.work l.l) × (length l.fig ≡ length l.initial.fig) × (ModuleAdded l.shape l.numbers l.lo (length l.initial.fig) l.l l.initial.work l.work) × (Each l.shape l.numbers (λ m. Progress m l.lo l.l l.work l.fig))
