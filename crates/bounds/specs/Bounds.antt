-- Bounds of the sums over all intervals of a length that end in a range of ends. Assumes nothing.
use Rattle.std.specs.Prelude.{◌≡◌, List, ℕ, pred, ◌+◌, ◌-◌, ◌*◌, ◌≤◌, ◌<◌, length}
use Rattle.model.specs.Sheet.{Module, Sheet, module_at}
use Rattle.model.specs.Limits.{max_horizon, work_numbers}
use Rattle.model.specs.Run.{first}
use Rattle.model.specs.Demand.{value}
use Rattle.model.specs.Verdict.{exact_sum}
use Rattle.layers.specs.declared.Shape.{Shape}
use Rattle.layers.specs.Step.{look}
use Rattle.layers.specs.Layer.{Layer, Each}
use Rattle.memory.specs.Map.{layer_from, marks_from, cells_from, layer_part, marks_part}
use Rattle.marks.specs.Marks.{Marks}
use Rattle.tiles.specs.Tiles.{Within}

-- One module.

-- no demand of the module in the L ticks before an end of the range, over runs from tick 0, exceeds v; from tick 0 on where the end has fewer
-- ticks before it
abbrev pub Bound : Module → ℕ → ℕ → ℕ → ℕ → Type 0
Bound m lo width L v = (i : ℕ) → i < width → value m (lo + i - L) (lo + i) first ≤ v

-- what the module has come to with n ticks: its layer, its marks up to the last end of the range, and its bound, at most 16 for each tick
pub record Progress (m : Module) (lo width n : ℕ) (w : List ℕ) (best : ℕ) : Type 0 where
  pub layer : Layer m n (layer_part w)
  pub marks : Marks m (pred (lo + width)) (marks_part w)
  pub bound : Bound m lo width n best
  pub low : best ≤ 16 * n

-- whichever module the numbers tell has come to n ticks, with the bound r; of the working memory the layer's part alone has changed
pub record Progressed (s : Shape) (numbers : List ℕ) (lo width n r : ℕ) (w w' : List ℕ) : Type 0 where
  pub within : Within layer_from marks_from w w'
  pub each : Each s numbers (λ m. Progress m lo width n w' r)

-- it has come to n + 1 ticks, and its bound is added to the number at that length; nothing else but the layer's part has changed
pub record NextAdded (s : Shape) (numbers : List ℕ) (lo width n r : ℕ) (w w' : List ℕ) : Type 0 where
  pub len : length w' ≡ length w
  pub sum : look w' (n + 1) ≡ look w (n + 1) + r
  pub others : (x : ℕ) → x ≤ max_horizon → (x ≡ n + 1 → ⊥) → look w' x ≡ look w x
  pub above : (x : ℕ) → marks_from ≤ x → look w' x ≡ look w x
  pub each : Each s numbers (λ m. Progress m lo width (n + 1) w' r)

-- to the numbers at the lengths from 1 to n bounds are added of whichever module the numbers tell, each at most 32,000; the numbers at the lengths
-- above n, and what lies past the marks, are as they were
pub record BoundsAdded (s : Shape) (numbers : List ℕ) (lo width n : ℕ) (w w' : List ℕ) : Type 0 where
  pub len : length w' ≡ length w
  pub sums : Each s numbers (λ m. (L : ℕ) → 1 ≤ L → L ≤ n → (v : ℕ) × (look w' L ≡ look w L + v) × (v ≤ 32000) × Bound m lo width L v)
  pub later : (x : ℕ) → n < x → x ≤ max_horizon → look w' x ≡ look w x
  pub above : (x : ℕ) → cells_from ≤ x → look w' x ≡ look w x

-- A sheet.

-- to the numbers at the lengths from 1 to stop bounds are added of the module k, each at most 32,000
pub record ModuleAdded (s : Sheet) (k lo width stop : ℕ) (w w' : List ℕ) : Type 0 where
  pub len : length w' ≡ length w
  pub sums : (L : ℕ) → 1 ≤ L → L ≤ stop → (v : ℕ) × (look w' L ≡ look w L + v) × (v ≤ 32000) × Bound (module_at s k) lo width L v
  pub kept : (x : ℕ) → stop < x → x ≤ max_horizon → look w' x ≡ look w x
  pub above : (x : ℕ) → work_numbers ≤ x → look w' x ≡ look w x

-- at each length up to stop stands a number that no sum exceeds of an interval of that length which ends in the range; the numbers at the lengths
-- above stop, and what lies past the working memory, are as they were
pub record SumsBounded (s : Sheet) (lo width stop : ℕ) (w w' : List ℕ) : Type 0 where
  pub len : length w' ≡ length w
  pub above : (x : ℕ) → work_numbers ≤ x → look w' x ≡ look w x
  pub kept : (x : ℕ) → stop < x → x ≤ max_horizon → look w' x ≡ look w x
  pub sums : (L i : ℕ) → i < width → 1 ≤ L → L ≤ stop → L ≤ lo + i → exact_sum s (lo + i - L) (lo + i) ≤ look w' L
