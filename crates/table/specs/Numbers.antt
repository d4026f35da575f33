-- The tasks of a module as numbers, one after the other. Assumes nothing.
use Rattle.std.specs.Prelude.{◌≡◌, List, ℕ, ◌+◌, ◌<◌, ◌≤◌, length, get_or, take}
use Rattle.model.specs.Sheet.{Mode, Module}
use Rattle.model.specs.Flat.{task_numbers}
use Rattle.format.specs.Encoding.{joined}
use Rattle.table.specs.Rows.{Row}
use Rattle.table.specs.declared.Tasks.{Tasks}

-- of each mode in its order
abbrev pub mode_numbers : List Mode → List ℕ
mode_numbers os = joined (λ (o : Mode). task_numbers o.tasks) os

-- where the numbers of the mode j begin: behind those of the modes before it; past the modes, where all end
abbrev pub start_of : Module → ℕ → ℕ
start_of m j = length (mode_numbers (take j m.modes))

-- the numbers, and 0 past them
abbrev pub number_at : Module → ℕ → ℕ
number_at m i = get_or (mode_numbers m.modes) i 0

pub record TasksOf (m : Module) (r : Tasks) : Type 0 where
  pub starts : Row 0 9 (start_of m) r.starts
  pub numbers : Row 0 512 (number_at m) r.numbers

-- the numbers ns are written from the place at on, and nothing else is
pub record Written (at : ℕ) (ns before after : List ℕ) : Type 0 where
  pub size : length after ≡ length before
  pub here : (i : ℕ) → i < length ns → get_or after (at + i) 0 ≡ get_or ns i 0
  pub below : (i : ℕ) → i < at → get_or after i 0 ≡ get_or before i 0
  pub above : (i : ℕ) → at + length ns ≤ i → get_or after i 0 ≡ get_or before i 0
