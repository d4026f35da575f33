-- The instances, each at the cost of the task. Assumes nothing.
use native.Mathlib.Omega.{arith}
use Rattle.place.specs.Numbers.{task_of}
use Rattle.demand.proofs.Tasks.{task_counted}
use Rattle.demand.proofs.task_demand.Goals as goal

pub overflow_mul-result : goal.overflow_mul-result
overflow_mul-result c = omega (arith, (task_counted (task_of c.args.task) _ _ _ c.requires.countable c.requires.times c.instances.ensures).bound)

pub returns : goal.returns
returns c = task_counted (task_of c.args.task) _ _ _ c.requires.countable c.requires.times c.instances.ensures
