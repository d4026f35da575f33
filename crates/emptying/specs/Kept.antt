-- The tasks of the modes that are kept, as numbers. Assumes nothing.
use Rattle.std.specs.Prelude.{◌≡◌, Bool, false, cond, List, [], ℕ, ◌+◌, ◌-◌, ◌≤◌, length, get_or, take, drop}
use Rattle.layers.specs.declared.Shape.{Shape}
use Rattle.layers.specs.Step.{look, tasks_of}

-- the numbers of the tasks of the mode k; none where it is not kept
unfoldable pub kept_tasks : Shape → List ℕ → List Bool → ℕ → List ℕ
kept_tasks s numbers kept k = cond (get_or kept k false) (tasks_of s numbers k) []

-- the numbers ns stand from the start of the mode k to that of the next
pub record Between (starts numbers : List ℕ) (k : ℕ) (ns : List ℕ) : Type 0 where
  pub up : look starts k ≤ look starts (k + 1)
  pub within : look starts (k + 1) ≤ length numbers
  pub tasks : take (look starts (k + 1) - look starts k) (drop (look starts k) numbers) ≡ ns
