-- The sheets of the worked cases (document 01, 'Program and examples'; document 02): bytes where the case gives bytes, values else. Assumes nothing.
use Rattle.std.specs.Prelude.{List, [], ◌∷◌, ℕ, replicate}
use Rattle.model.specs.Sheet.{Task, Kind, SW, SX, Switch, Mode, Module, Sheet}

-- Sheet A, with its horizon as a parameter: case B has another.
unfoldable pub sheet_a : ℕ → List ℕ
sheet_a horizon =
    0x48 ∷ 0x5A ∷ horizon ∷ 0x00
    ∷ 0x4D ∷ 0x4C ∷ 0x01 ∷ 0x00
    ∷ 0x4D ∷ 0x44 ∷ 0x04 ∷ 0x00
    ∷ 0x54 ∷ 0x4B ∷ 0x00 ∷ 0x00 ∷ 0x02 ∷ 0x00 ∷ 0x03 ∷ 0x00 ∷ 0x04 ∷ 0x00
    ∷ 0x4D ∷ 0x4C ∷ 0x02 ∷ 0x00
    ∷ 0x4D ∷ 0x44 ∷ 0x04 ∷ 0x00
    ∷ 0x54 ∷ 0x4B ∷ 0x00 ∷ 0x00 ∷ 0x01 ∷ 0x00 ∷ 0x04 ∷ 0x00 ∷ 0x04 ∷ 0x00
    ∷ 0x53 ∷ 0x57 ∷ 0x01 ∷ 0x00 ∷ 0x04 ∷ 0x00
    ∷ 0x4D ∷ 0x44 ∷ 0x04 ∷ 0x00
    ∷ 0x54 ∷ 0x4B ∷ 0x01 ∷ 0x00 ∷ 0x02 ∷ 0x00 ∷ 0x02 ∷ 0x00 ∷ 0x04 ∷ 0x00
    ∷ 0x45 ∷ 0x4E ∷ 0x0A ∷ 0x00
    ∷ []

-- Sheet H, with EN's number as a parameter, and more bytes behind it.
unfoldable pub sheet_h : ℕ → List ℕ → List ℕ
sheet_h number more =
    0x48 ∷ 0x5A ∷ 0x01 ∷ 0x00
    ∷ 0x4D ∷ 0x4C ∷ 0x01 ∷ 0x00
    ∷ 0x4D ∷ 0x44 ∷ 0x01 ∷ 0x00
    ∷ 0x45 ∷ 0x4E ∷ number ∷ 0x00
    ∷ more

abbrev pub task : ℕ → ℕ → ℕ → ℕ → Task
task offset cost LET period = record { offset = offset; cost = cost; LET = LET; period = period }

abbrev pub mode : ℕ → List Task → List Switch → Mode
mode period tasks switches = record { period = period; tasks = tasks; switches = switches }

abbrev pub by : Kind → ℕ → ℕ → Switch
by kind target period = record { kind = kind; target = target; period = period }

abbrev pub to : ℕ → ℕ → Switch
to = by SW

abbrev pub modes : List Mode → Module
modes os = record { modes = os }

-- one module with one mode of one task
unfoldable pub lone : ℕ → Task → Module
lone period k = modes (mode period (k ∷ []) [] ∷ [])

unfoldable pub sheet_d : Sheet
sheet_d = record { horizon = 8; modules = lone 8 (task 1 1 1 8) ∷ [] }

unfoldable pub sheet_e : Sheet
sheet_e = record { horizon = 8; modules = lone 8 (task 0 1 4 4) ∷ [] }

-- two modes of period 4, each switching to the other at 4
unfoldable pub pair : List Task → List Task → Module
pair ks ls = modes (mode 4 ks (to 1 4 ∷ []) ∷ mode 4 ls (to 0 4 ∷ []) ∷ [])

unfoldable pub sheet_f : Sheet
sheet_f = record { horizon = 16; modules = pair (task 0 2 2 4 ∷ []) (task 2 2 2 4 ∷ []) ∷ lone 8 (task 0 4 8 8) ∷ [] }

unfoldable pub sheet_g : Sheet
sheet_g = record { horizon = 8; modules = pair (task 0 1 1 4 ∷ []) (task 1 3 3 4 ∷ []) ∷ lone 8 (task 0 6 8 8) ∷ [] }

-- Slip 3: module 1 begins in a mode without tasks.
unfoldable pub suspended : Sheet
suspended = record { horizon = 8; modules = lone 4 (task 0 3 4 4) ∷ pair [] (task 0 2 3 4 ∷ []) ∷ [] }

-- Request b: no switch leads to mode 2 of module 0, a factory mode.
unfoldable pub factory : Sheet
factory =
    record {
      horizon = 8;
      modules =
          modes
          (mode 4 (task 0 1 4 4 ∷ []) (to 1 4 ∷ []) ∷ mode 4 (task 0 2 4 4 ∷ []) (to 0 4 ∷ []) ∷ mode 4 (task 0 4 4 4 ∷ []) (to 0 4 ∷ []) ∷ [])
          ∷ lone 4 (task 0 2 4 4)
          ∷ [];
    }

-- Request k: module 0 has work from tick 0 to tick 4 of a mode of period 12, which a switch of this kind and period leaves; module 1 takes so
-- much of every 6 ticks.
unfoldable pub leaving : Kind → ℕ → ℕ → Sheet
leaving kind period cost =
    record {
      horizon = 12;
      modules =
          modes (mode 12 (task 0 3 4 12 ∷ []) (by kind 1 period ∷ []) ∷ mode 2 (task 0 1 1 2 ∷ []) (to 0 2 ∷ []) ∷ [])
          ∷ lone 6 (task 0 cost 6 6)
          ∷ [];
    }

-- Request k: a task releases at tick 2, where its mode may be left; the next mode releases at every tick.
unfoldable pub releasing : Sheet
releasing = record { horizon = 4; modules = modes (mode 4 (task 2 1 1 4 ∷ []) (by SX 1 2 ∷ []) ∷ mode 1 (task 0 1 1 1 ∷ []) [] ∷ []) ∷ [] }

-- Request k: a target that is named twice.
unfoldable pub twice : Kind → Kind → Sheet
twice kind other = record { horizon = 4; modules = modes (mode 4 [] (by kind 1 4 ∷ by other 1 4 ∷ []) ∷ mode 4 [] [] ∷ []) ∷ [] }

-- eight modes, of which the first has these switches, and each other two, the second of them an SX
unfoldable pub eight : List Switch → Module
eight ws = modes (mode 1 [] ws ∷ mode 1 [] (to 0 1 ∷ by SX 2 1 ∷ []) ∷ replicate 6 (mode 1 [] (to 0 1 ∷ by SX 1 1 ∷ [])))

-- Request k: 129 switches of both kinds, the last one an SX.
unfoldable pub crowded : Sheet
crowded = record { horizon = 1; modules = eight (to 1 1 ∷ to 2 1 ∷ to 3 1 ∷ []) ∷ replicate 7 (eight (to 1 1 ∷ to 2 1 ∷ [])) }
