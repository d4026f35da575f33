-- The numbers of a task, as the code holds them. Assumes nothing.
use Rattle.model.specs.Sheet.{Task}
use Rattle.place.specs.declared.Task.{Task as Numbers}

-- the task that has these numbers
abbrev pub task_of : Numbers → Task
task_of x = record { offset = x.offset; cost = x.cost; LET = x.due; period = x.period }
