-- The figures of a module for the ends of a tile, and what raising and adding them does. Assumes nothing.
use Rattle.std.specs.Prelude.{◌≡◌, List, ℕ, ◌+◌, ◌-◌, ◌≤◌, ◌<◌, length}
use Rattle.model.specs.Sheet.{Module}
use Rattle.model.specs.WellFormed.{ModuleRule}
use Rattle.model.specs.Run.{first}
use Rattle.model.specs.Demand.{value}
use Rattle.layers.specs.declared.Shape.{Shape}
use Rattle.layers.specs.Step.{look}
use Rattle.layers.specs.Layer.{Told, Layer}
use Rattle.marks.specs.Marks.{Marks}

-- The tile of the ends from lo on: of the end lo + i the largest demand in the L ticks before it, over runs from tick 0; from tick 0 on where
-- the end has fewer ticks before it.
abbrev pub Figures : Module → ℕ → ℕ → List ℕ → Type 0
Figures m L lo fig = (i : ℕ) → i < length fig → look fig i ≡ value m (lo + i - L) (lo + i) first

-- the numbers tell a module, whose layer for l ticks and marks up to the last end are there, and whose figures are those for a tick less
pub record Growable (s : Shape) (numbers layer bits : List ℕ) (lo l : ℕ) (fig : List ℕ) : Type 0 where
  pub owner : Module
  pub rule : ModuleRule owner
  pub told : Told owner s numbers
  pub holds : Layer owner l layer
  pub horizon : ℕ
  pub marks : Marks owner horizon bits
  pub ends : lo + length fig ≤ horizon + 1
  pub figures : Figures owner (l - 1) lo fig

-- of whichever module the numbers tell, the figures for a tick less have become those for l ticks
pub record Grown (s : Shape) (numbers layer bits : List ℕ) (lo l : ℕ) (fig fig' : List ℕ) : Type 0 where
  pub len : length fig' ≡ length fig
  pub figures : (m : Module) (horizon : ℕ) → ModuleRule m → Told m s numbers → Layer m l layer → Marks m horizon bits → lo + length fig ≤ horizon + 1
      → Figures m (l - 1) lo fig → Figures m l lo fig'

-- the first n figures are added to their cells, and nothing else has changed
pub record Added (n : ℕ) (fig cells cells' : List ℕ) : Type 0 where
  pub len : length cells' ≡ length cells
  pub each : (i : ℕ) → i < n → look cells' i ≡ look cells i + look fig i
  pub above : (i : ℕ) → n ≤ i → look cells' i ≡ look cells i
