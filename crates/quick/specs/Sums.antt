-- What the row of sums holds of a sheet. Past the working memory nothing changes. Assumes nothing.
use Rattle.std.specs.Prelude.{◌≡◌, List, ℕ, ◌+◌, ◌≤◌, length, Option}
use Rattle.model.specs.Sheet.{Sheet, module_at}
use Rattle.model.specs.Limits.{work_numbers}
use Rattle.model.specs.Demand.{module_demand}
use Rattle.model.specs.Verdict.{quick_from, quick_sum}
use Rattle.query.specs.Memory.{Stays}
use Rattle.layers.specs.Step.{look}
use Rattle.sums.specs.declared.Excess.{Excess}
use Rattle.sums.specs.Sums.{quick_of}

-- to the sum of each length up to n the demand of the module k is added
pub record ModuleAdded (s : Sheet) (n k : ℕ) (w w' : List ℕ) : Type 0 where
  pub len : length w' ≡ length w
  pub sums : (L : ℕ) → 1 ≤ L → L ≤ n → look w' L ≡ look w L + module_demand (module_at s k) L
  pub above : (x : ℕ) → work_numbers ≤ x → look w' x ≡ look w x

-- at each length up to n the sum of the modules' demands stands
pub record SumsOf (s : Sheet) (n : ℕ) (w w' : List ℕ) : Type 0 where
  pub len : length w' ≡ length w
  pub sums : (L : ℕ) → 1 ≤ L → L ≤ n → look w' L ≡ quick_sum s L
  pub above : (x : ℕ) → work_numbers ≤ x → look w' x ≡ look w x

-- the first length up to n whose sum exceeds it is found
pub record Found (s : Sheet) (n : ℕ) (r : Option Excess) (w w' : List ℕ) : Type 0 where
  pub stays : Stays work_numbers w w'
  pub first : quick_of r ≡ quick_from (quick_sum s) n 1
