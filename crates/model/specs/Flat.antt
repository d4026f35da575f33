-- The tasks of a mode as flat numbers. Assumes nothing.
use Rattle.std.specs.Prelude.{List, [], ◌∷◌, ℕ}
use Rattle.model.specs.Sheet.{Task}

-- four of each task: offset, cost, LET, period
abbrev pub task_numbers : List Task → List ℕ
task_numbers [] = []
task_numbers (k ∷ ks) = k.offset ∷ k.cost ∷ k.LET ∷ k.period ∷ task_numbers ks
