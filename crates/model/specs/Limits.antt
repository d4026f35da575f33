-- The numbers that are fixed for the product (document 01, 'The sheet'). Assumes nothing.
use Rattle.std.specs.Prelude.{ℕ}

abbrev pub max_horizon : ℕ
max_horizon = 2000

abbrev pub max_modules : ℕ
max_modules = 8

-- in a module
abbrev pub max_modes : ℕ
max_modes = 8

abbrev pub max_mode_period : ℕ
max_mode_period = 1024

abbrev pub max_mode_tasks : ℕ
max_mode_tasks = 16

-- in a sheet
abbrev pub max_tasks : ℕ
max_tasks = 256

abbrev pub max_switches : ℕ
max_switches = 128

abbrev pub max_bytes : ℕ
max_bytes = 3624

-- the lent working memory, in numbers of 32 bits
abbrev pub work_numbers : ℕ
work_numbers = 16384
