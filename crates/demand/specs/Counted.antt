-- What is known of a task where its instances are counted, and what is counted. Assumes nothing.
use Rattle.std.specs.Prelude.{◌≡◌, ℕ, ◌+◌, ◌*◌, ◌≤◌}
use Rattle.model.specs.Sheet.{Task}
use Rattle.model.specs.Limits.{max_mode_period}
use Rattle.model.specs.Demand.{instances}

-- a and b are mode times, in order
pub record Times (a b : ℕ) : Type 0 where
  pub order : a ≤ b
  pub most : b ≤ max_mode_period

-- a task of an accepted sheet
pub record Countable (k : Task) : Type 0 where
  pub works : 1 ≤ k.cost
  pub fits : k.cost ≤ k.LET
  pub within : k.offset + k.LET ≤ k.period
  pub short : k.period ≤ max_mode_period

-- r is what the task demands from a to b: no more than two periods of a mode
pub record Counted (k : Task) (a b r : ℕ) : Type 0 where
  pub amount : r ≡ instances k a b * k.cost
  pub bound : r ≤ 2 * max_mode_period
