-- The map of the lent working memory: where each of its parts begins. Assumes nothing.
use Rattle.std.specs.Prelude.{List, ℕ, ◌+◌, ◌-◌, ◌*◌, take, drop}
use Rattle.model.specs.Limits.{max_horizon, work_numbers}

-- a module's layer: at most 8 modes of at most 1,024 mode times
abbrev pub layer_numbers : ℕ
layer_numbers = 8192

-- a module's marks: a row for each of 8 modes, with 32 ticks in a number
abbrev pub mark_row_numbers : ℕ
mark_row_numbers = 63

abbrev pub mark_row_ticks : ℕ
mark_row_ticks = 32 * mark_row_numbers

abbrev pub mark_numbers : ℕ
mark_numbers = 8 * mark_row_numbers

-- the tests: at L the sum, or the bound, of the length L, up to 2,000; behind these the layer of one module, its marks, and the cells
abbrev pub layer_from : ℕ
layer_from = max_horizon + 1

abbrev pub marks_from : ℕ
marks_from = layer_from + layer_numbers

abbrev pub cells_from : ℕ
cells_from = marks_from + mark_numbers

abbrev pub cell_numbers : ℕ
cell_numbers = work_numbers - cells_from

-- the writer of a tape: the layer of one module, and behind it the heads of its modes at each tick
abbrev pub heads_from : ℕ
heads_from = layer_numbers

abbrev pub layer_part : List ℕ → List ℕ
layer_part w = take layer_numbers (drop layer_from w)

abbrev pub marks_part : List ℕ → List ℕ
marks_part w = take mark_numbers (drop marks_from w)
