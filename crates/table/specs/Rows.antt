-- Rows of figures, one row for each module of a sheet value. Assumes nothing.
use Rattle.std.specs.Prelude.{◌≡◌, Bool, false, cond, List, [], ◌∷◌, map, ℕ, suc, ◌/◌, ◌%◌, ◌<◌, eqb, length, get_or}
use Rattle.model.specs.Sheet.{Switch, Mode, Module, Sheet, module_at, named}
use Rattle.model.specs.Limits.{max_modules}
use Rattle.model.specs.Run.{mode_at}
use Rattle.table.specs.declared.ModuleRow.{ModuleRow}

-- a row of n figures: at each number below n what f says
pub record Row {A : Type 0} (d : A) (n : ℕ) (f : ℕ → A) (row : List A) : Type 0 where
  pub size : length row ≡ n
  pub each : (i : ℕ) → i < n → get_or row i d ≡ f i

-- the period of the mode j, 0 past the modes
abbrev pub period_at : Module → ℕ → ℕ
period_at m j = get_or (map (λ (o : Mode). o.period) m.modes) j 0

-- the period of the first switch that names the mode t, 0 where none does
abbrev pub period_to : ℕ → List Switch → ℕ
period_to t [] = 0
period_to t (w ∷ ws) = cond (eqb t w.target) w.period (period_to t ws)

-- the number of the first switch that names the mode t; where none does, how many there are
abbrev pub index_to : ℕ → List Switch → ℕ
index_to t [] = 0
index_to t (w ∷ ws) = cond (eqb t w.target) 0 (suc (index_to t ws))

-- at 8 * j + t: the period of the switch of the mode j to the mode t, 0 where the mode j does not list t
abbrev pub switch_period_at : Module → ℕ → ℕ
switch_period_at m i = period_to (i % 8) (mode_at m (i / 8)).switches

-- at 8 * j + t: whether the mode j lists the mode t
abbrev pub switch_listed_at : Module → ℕ → Bool
switch_listed_at m i = named (i % 8) (mode_at m (i / 8)).switches

-- the row of the module m
pub record RowOf (m : Module) (r : ModuleRow) : Type 0 where
  pub periods : Row 0 8 (period_at m) r.periods
  pub every : Row 0 64 (switch_period_at m) r.every
  pub listed : Row false 64 (switch_listed_at m) r.listed

-- what is read past an array of rows, which nobody does
abbrev pub no_row : ModuleRow
no_row = record { periods = []; every = []; listed = [] }

-- the rows of each number that a module can have; past the modules those of a module without modes
pub record RowsOf (s : Sheet) (rows : List ModuleRow) : Type 0 where
  pub size : length rows ≡ max_modules
  pub each : (k : ℕ) → k < max_modules → RowOf (module_at s k) (get_or rows k no_row)
