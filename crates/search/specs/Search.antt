-- The search for the first interval that is over, range by range and tile by tile: what the bounds and the cells hold of a sheet, and what a search
-- leaves. Assumes nothing.
use Rattle.std.specs.Prelude.{Option, ◌≡◌, true, false, List, ℕ, ◌+◌, ◌-◌, ◌≤◌, ◌<◌, take}
use Rattle.model.specs.Lists.{sum_of}
use Rattle.model.specs.Sheet.{Module, Sheet}
use Rattle.model.specs.Limits.{work_numbers}
use Rattle.model.specs.Run.{first}
use Rattle.model.specs.Demand.{value}
use Rattle.model.specs.Verdict.{Exact, exact_sum}
use Rattle.layers.specs.Step.{look}
use Rattle.cells.specs.declared.Interval.{Interval}
use Rattle.memory.specs.Map.{layer_from}
use Rattle.cells.specs.Cells.{in_question, cell_at, found_of}
use Rattle.tiles.specs.Tiles.{Within}

-- of the intervals with one of so many ends from lo on none is over whose length is not in question
abbrev pub Passed : Sheet → ℕ → ℕ → List ℕ → Type 0
Passed s lo range w = (L i : ℕ) → i < range → 1 ≤ L → L ≤ lo + i → in_question w L ≡ false → exact_sum s (lo + i - L) (lo + i) ≤ L

-- no interval that is longer than stop is over
abbrev pub Beyond : Sheet → ℕ → Type 0
Beyond s stop = (a b : ℕ) → b ≤ s.horizon → stop < b - a → exact_sum s a b ≤ b - a

-- the bounds, and all that lies past the working memory, are as they were
abbrev pub Kept : List ℕ → List ℕ → Type 0
Kept w w' = Within layer_from work_numbers w w'

-- the bounds of a range of so many ends stand in the working memory
pub record Bounded (s : Sheet) (lo range : ℕ) (w w' : List ℕ) : Type 0 where
  pub kept : Within 0 work_numbers w w'
  pub passed : Passed s lo range w'

-- the bounds of a range of r ends, at most so many
pub record Narrowed (s : Sheet) (lo range r : ℕ) (w w' : List ℕ) : Type 0 where
  pub most : r ≤ range
  pub bounded : Bounded s lo r w w'

-- the cells of the tile hold the sums over the first k modules, each that of the interval of its length before its end
abbrev pub CellsOf : Sheet → ℕ → ℕ → ℕ → List ℕ → Type 0
CellsOf s k lo width w =
    (L i : ℕ) → 1 ≤ L → L < lo + width → in_question w L ≡ true → i < width
    → look w (cell_at w width L i) ≡ sum_of (λ (m : Module). value m (lo + i - L) (lo + i) first) (take k s.modules)

-- the tile is filled with those sums; what is kept is as it was
pub record Filled (s : Sheet) (k lo width : ℕ) (w w' : List ℕ) : Type 0 where
  pub kept : Kept w w'
  pub cells : CellsOf s k lo width w'

-- a search has found what e says; the numbers before the one of the number from, and all that lies past the working memory, are as they were
pub record Searched (from : ℕ) (e : Exact) (r : Option Interval) (w w' : List ℕ) : Type 0 where
  pub kept : Within from work_numbers w w'
  pub found : found_of r ≡ e
