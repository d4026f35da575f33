-- A module of which some modes are kept and every other is idle: period 1, no tasks, no switches. Assumes nothing.
use Rattle.std.specs.Prelude.{Bool, cond, List, [], ◌∷◌, ℕ, suc}
use Rattle.model.specs.Sheet.{Mode, Module}
use Rattle.model.specs.Run.{idle}
use Rattle.model.specs.Demand.{reached}

-- of modes of which the first has the number i
abbrev pub emptied_from : (ℕ → Bool) → ℕ → List Mode → List Mode
emptied_from kept i [] = []
emptied_from kept i (o ∷ os) = cond (kept i) o idle ∷ emptied_from kept (suc i) os

unfoldable pub emptied : (ℕ → Bool) → Module → Module
emptied kept m = record { modes = emptied_from kept 0 m.modes }

-- of the reached modes alone
abbrev pub reached_part : Module → Module
reached_part m = emptied (reached m) m
