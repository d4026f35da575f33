-- How long a mode stays current (document 01, 'Slips to rule out', 5). Assumes nothing.
use Rattle.std.specs.Prelude.{◌≡◌, ℕ, ◌+◌, ◌-◌, ◌≤◌, ◌<◌}
use Rattle.model.specs.Run.{at, Run}

-- at each tick from t on and before b the run is in the mode of tick t, with the mode time of t and the ticks since
abbrev pub CurrentUntil : Run → ℕ → ℕ → Type 0
CurrentUntil ρ t b = (u : ℕ) → t ≤ u → u < b → ρ u ≡ at (ρ t).mode ((ρ t).time + (u - t))
