-- The cells of a tile as the modules' figures are added, one module after another. Assumes nothing.
use mathlib.Core.Path.{◌≡◌, sym, ◌∙◌}
use mathlib.Core.List.{List}
use Prim.Native.Nat.{ℕ, pred, ◌+◌, ◌-◌, ◌≤◌, ◌<◌}
use native.Mathlib.Omega.{arith}
use lib.ListN.{length}
use Rattle.model.specs.Sheet.{Sheet, absent, module_at}
use Rattle.model.specs.Limits.{work_numbers}
use Rattle.model.specs.WellFormed.{ModuleRule, WellFormed}
use Rattle.model.specs.Run.{first}
use Rattle.model.specs.Demand.{value}
use Rattle.model.proofs.Lists.{all_at}
use Rattle.model.proofs.Runs.{first_listed}
use Rattle.model.proofs.Bounds.{value_bound}
use Rattle.layers.specs.declared.Shape.{Shape}
use Rattle.layers.specs.Layer.{Told}
use Rattle.model.proofs.Summing.{sum_more, sum_most}
use Rattle.memory.specs.Map.{layer_from}
use Rattle.cells.specs.Cells.{Tile, CellsCleared}
use Rattle.cells.proofs.Rows.{row_inside}
use Rattle.tiles.specs.Tiles.{CellsFit, ModuleAdded}
use Rattle.tiles.proofs.Rows.{question_same, cell_same}
use Rattle.tiles.proofs.Parts.{within_none, within_wider, within_then}
use Rattle.search.specs.Search.{Kept, CellsOf, Filled}
use Rattle.search.proofs.Keeping.{same}

pub kept_by_clearing : {w w' : List ℕ} → CellsCleared w w' → Kept w w'
kept_by_clearing c = record { len = c.len; below = λ x h. c.others x (omega arith); above = c.above }

module _ (s : Sheet) (lo width : ℕ) where
  -- all cells are 0
  pub filled_none : (w w' : List ℕ) → Tile w' lo width → CellsCleared w w' → Filled s 0 lo width w' w'
  filled_none w w' t c = record {
    kept = within_none layer_from work_numbers w';
    cells = λ L i h l q j. c.cells _ (omega arith) (omega (arith, row_inside w' L h lo width t l q));
  }

  module _ (k : ℕ) (number : k < length s.modules) where
    -- no cell is too large for one module more
    pub cells_fit : WellFormed s → (w : List ℕ) → CellsOf s k lo width w → Tile w lo width → CellsFit w lo width
    cells_fit ok w cells t L i h l q j =
        omega (arith, cells L i h l q j, sum_most (λ m. value m (lo + i - L) (lo + i) first) absent 32000 s.modules each k (omega arith), ok.modules_most)
      where
        each : (n : ℕ) → n < length s.modules → value (module_at s n) (lo + i - L) (lo + i) first ≤ 32000
        each n b =
            let rule = all_at ModuleRule absent s.modules ok.modules n b in
            omega (arith, value_bound (module_at s n) rule (lo + i - L) (lo + i) first (first_listed (module_at s n) rule).time, t.ends)

    -- the figures of the module that the numbers tell
    pub filled_by : (shape : Shape) (numbers w w' : List ℕ) → ModuleRule (module_at s k) → Told (module_at s k) shape numbers → CellsOf s k lo width w
        → Tile w lo width → ModuleAdded shape numbers lo width (pred (lo + width)) w w' → Filled s (k + 1) lo width w w'
    filled_by shape numbers w w' rule told cells t new = record {
      kept = within_wider new.within layer_from work_numbers (omega arith) t.room;
      cells = λ L i h l q j.
          let short : L ≤ 2000 = omega (arith, t.ends) in
          let asked = sym (question_same w w' (same new.within) L short) ∙ q in
          rw (cell_same w w' (same new.within) width L i short)
          (omega (arith, new.cells _ rule told L i h (omega arith) asked j, cells L i h l asked j, sum_more (λ m. value m (lo + i - L) (lo + i) first) absent s.modules k number));
    }

module _ {s : Sheet} {k lo width : ℕ} {w₀ w : List ℕ} (done : Filled s k lo width w₀ w) where
  -- one module more
  pub filled_more : {w' : List ℕ} → Filled s (k + 1) lo width w w' → Filled s (k + 1) lo width w₀ w'
  filled_more new = record { kept = within_then done.kept new.kept; cells = new.cells }

  -- from the memory before the cells were cleared, and as many modules as are said
  pub filled_all : {v : List ℕ} {n : ℕ} → CellsCleared v w₀ → n ≡ k → Filled s n lo width v w
  filled_all c e = record { kept = within_then (kept_by_clearing c) done.kept; cells = rw e done.cells }
