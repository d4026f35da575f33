-- The cells of a tile of ends: a row for each length in question, in it for each end of the tile a sum over the modules. Assumes nothing.
use Rattle.std.specs.Prelude.{Option, Some, None, ◌≡◌, Bool, true, false, List, ℕ, zero, suc, pred, ◌+◌, ◌-◌, ◌*◌, ◌≤◌, ◌<◌, ltb, length}
use Rattle.model.specs.Lists.{when}
use Rattle.model.specs.Limits.{work_numbers}
use Rattle.model.specs.Verdict.{Exact}
use Rattle.memory.specs.Map.{cells_from}
use Rattle.layers.specs.Step.{look}
use Rattle.cells.specs.declared.Interval.{Interval}

-- a length is in question where its bound exceeds it
abbrev pub in_question : List ℕ → ℕ → Bool
in_question w L = ltb L (look w L)

-- none of the lengths up to n that exceed r is in question
pub record Longest (w : List ℕ) (n r : ℕ) : Type 0 where
  pub within : r ≤ n
  pub longer : (L : ℕ) → r < L → L ≤ n → in_question w L ≡ false

-- how many of the lengths from 1 to n are in question
unfoldable pub rows : List ℕ → ℕ → ℕ
rows w zero = 0
rows w (suc n) = rows w n + when (in_question w (suc n)) 1

-- where the cell of the length L stands that belongs to the end of the number i, in a tile of so many ends
abbrev pub cell_at : List ℕ → ℕ → ℕ → ℕ → ℕ
cell_at w width L i = cells_from + (rows w (pred L) * width + i)

-- a tile of the ends from lo on: the cells have room for its rows
pub record Tile (w : List ℕ) (lo width : ℕ) : Type 0 where
  pub memory : work_numbers ≤ length w
  pub first : 1 ≤ lo
  pub few : width ≤ 512
  pub ends : lo + width ≤ 2001
  pub room : cells_from + rows w (pred (lo + width)) * width ≤ work_numbers

-- the cell of a length in question holds f of the interval of that length before its end; of no other length does f exceed the length
pub record Holding (f : ℕ → ℕ → ℕ) (w : List ℕ) (lo width : ℕ) : Type 0 where
  pub cells : (L i : ℕ) → i < width → 1 ≤ L → L ≤ lo + i → in_question w L ≡ true → look w (cell_at w width L i) ≡ f (lo + i - L) (lo + i)
  pub others : (L i : ℕ) → i < width → 1 ≤ L → L ≤ lo + i → in_question w L ≡ false → f (lo + i - L) (lo + i) ≤ L

-- The answer.

abbrev pub found_of : Option Interval → Exact
found_of None = Exact.clear
found_of (Some x) = Exact.over x.start x.end x.demand

-- The cells before the first module is added.

-- all cells are 0, and nothing else has changed
pub record CellsCleared (w w' : List ℕ) : Type 0 where
  pub len : length w' ≡ length w
  pub cells : (x : ℕ) → cells_from ≤ x → x < work_numbers → look w' x ≡ 0
  pub others : (x : ℕ) → x < cells_from → look w' x ≡ look w x
  pub above : (x : ℕ) → work_numbers ≤ x → look w' x ≡ look w x
