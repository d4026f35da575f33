-- What is looked for at a place, where it is there: a mode of a module, a switch of a mode. Assumes nothing.
use Rattle.std.specs.Prelude.{◌≡◌, false, List, ℕ, ◌<◌, ◌≤◌, length, Option, MatchOption}
use Rattle.model.specs.Sheet.{Switch, Sheet, module_at, named}
use Rattle.place.specs.There.{ModeThere}
use Rattle.table.specs.Rows.{index_to}

-- the number of the first switch that names the mode t; there is none where none does
abbrev pub FirstTo : ℕ → List Switch → Option ℕ → Type 0
FirstTo t ws r = MatchOption r (named t ws ≡ false) (λ i. (i < length ws) × (i ≡ index_to t ws))

-- the place of the mode j of the module k; there is none where the module has no more than j modes
abbrev pub ModeIf : Sheet → ℕ → ℕ → Option ℕ → Type 0
ModeIf s k j r = MatchOption r (length (module_at s k).modes ≤ j) (λ q. ModeThere s k j q)
