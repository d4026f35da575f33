-- One module's part in a tile of ends: what it has come to with so many ticks, and what is added to the cells. Assumes nothing.
use Rattle.std.specs.Prelude.{◌≡◌, true, List, ℕ, pred, ◌+◌, ◌-◌, ◌*◌, ◌^◌, ◌≤◌, ◌<◌, length}
use Rattle.model.specs.Lists.{when}
use Rattle.model.specs.Sheet.{Module}
use Rattle.model.specs.Run.{first}
use Rattle.model.specs.Demand.{value}
use Rattle.layers.specs.declared.Shape.{Shape}
use Rattle.layers.specs.Step.{look, total, Cleared}
use Rattle.layers.specs.Layer.{Layer, Each}
use Rattle.memory.specs.Map.{layer_from, marks_from, cells_from, layer_part, marks_part}
use Rattle.marks.specs.Marks.{Marks}
use Rattle.marks.specs.Marking.{Entered}
use Rattle.figures.specs.Figures.{Figures}
use Rattle.cells.specs.Cells.{in_question, rows, cell_at}

-- nothing but the numbers from a on and before e has changed
pub record Within (a e : ℕ) (w w' : List ℕ) : Type 0 where
  pub len : length w' ≡ length w
  pub below : (x : ℕ) → x < a → look w' x ≡ look w x
  pub above : (x : ℕ) → e ≤ x → look w' x ≡ look w x

-- What the module has come to.

-- with n ticks: its layer, its marks up to the last end of the tile, and its figures
pub record Progress (m : Module) (lo n : ℕ) (w fig : List ℕ) : Type 0 where
  pub layer : Layer m n (layer_part w)
  pub marks : Marks m (pred (lo + length fig)) (marks_part w)
  pub figures : Figures m n lo fig

-- the numbers of the states are 0, and the marks up to the last end are there; nothing else has changed
pub record Begun (s : Shape) (last : ℕ) (w w' : List ℕ) : Type 0 where
  pub within : Within layer_from cells_from w w'
  pub layer : Cleared (total s.periods s.modes) (layer_part w) (layer_part w')
  pub marks : Entered s last (marks_part w) (marks_part w')

-- whichever module the numbers tell has come to n ticks; of the working memory the layer's part alone has changed
pub record Progressed (s : Shape) (numbers : List ℕ) (lo n : ℕ) (w w' fig fig' : List ℕ) : Type 0 where
  pub within : Within layer_from marks_from w w'
  pub size : length fig' ≡ length fig
  pub each : Each s numbers (λ m. Progress m lo n w' fig')

-- What is added to the cells.

-- there is room for the figures in the row of this number, and no sum there is too large
pub record RowFits (fig : List ℕ) (row : ℕ) (w : List ℕ) : Type 0 where
  pub room : cells_from + (row * length fig + length fig) ≤ length w
  pub low : (i : ℕ) → i < length fig → look w (cells_from + (row * length fig + i)) + look fig i < 2 ^ 32

-- if the length L is in question, the figures are added to the row of this number, and r is the number after it; nothing else has changed
pub record RowAdded (fig : List ℕ) (L row r : ℕ) (w w' : List ℕ) : Type 0 where
  pub next : r ≡ row + when (in_question w L) 1
  pub cells : in_question w L ≡ true → (i : ℕ) → i < length fig
      → look w' (cells_from + (row * length fig + i)) ≡ look w (cells_from + (row * length fig + i)) + look fig i
  pub within : Within (cells_from + row * length fig) (cells_from + r * length fig) w w'

-- each cell of the tile is at most that of seven modules, whose figures are at most 16 for each of 2,000 ticks
abbrev pub CellsFit : List ℕ → ℕ → ℕ → Type 0
CellsFit w lo width = (L i : ℕ) → 1 ≤ L → L < lo + width → in_question w L ≡ true → i < width → look w (cell_at w width L i) ≤ 7 * 32000

-- to the cells of the lengths up to n the figures of whichever module the numbers tell are added; the sums, and what lies past those cells, are
-- as they were
pub record ModuleAdded (s : Shape) (numbers : List ℕ) (lo width n : ℕ) (w w' : List ℕ) : Type 0 where
  pub cells : Each s numbers (λ m. (L i : ℕ) → 1 ≤ L → L ≤ n → in_question w L ≡ true → i < width
      → look w' (cell_at w width L i) ≡ look w (cell_at w width L i) + value m (lo + i - L) (lo + i) first)
  pub within : Within layer_from (cells_from + rows w n * width) w w'
