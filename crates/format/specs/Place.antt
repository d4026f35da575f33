-- Where a module and a mode begin in the bytes of a sheet value. Assumes nothing.
use Rattle.std.specs.Prelude.{ℕ, ◌+◌, ◌*◌, length, take}
use Rattle.model.specs.Lists.{sum_of}
use Rattle.model.specs.Sheet.{Mode, Module, Sheet, module_at}

-- MD, the TK records and the SW and SX records of a mode
abbrev pub mode_bytes : Mode → ℕ
mode_bytes o = 4 + 10 * length o.tasks + 6 * length o.switches

-- ML and the modes of a module
abbrev pub module_bytes : Module → ℕ
module_bytes m = 4 + sum_of mode_bytes m.modes

-- where ML of the module k stands: behind HZ and the modules before it
unfoldable pub module_place : Sheet → ℕ → ℕ
module_place s k = 4 + sum_of module_bytes (take k s.modules)

-- where MD of the mode j of the module k stands
unfoldable pub mode_place : Sheet → ℕ → ℕ → ℕ
mode_place s k j = module_place s k + 4 + sum_of mode_bytes (take j (module_at s k).modes)
