-- Behind i modules stands the module i. Assumes nothing.
use mathlib.Core.Path.{◌≡◌}
use native.Mathlib.Omega.{arith}
use Rattle.place.proofs.Walking.{modules_none, modules_some, modules_more}
use Rattle.place.proofs.AcceptedSheet.module_place.Goals as goal

pub loop-init : goal.loop-init
loop-init c = modules_none _

pub after_module-p-requires : goal.after_module-p-requires
after_module-p-requires c = modules_some c.loop.invariant (omega arith)

pub loop-preserved : goal.loop-preserved
loop-preserved c = modules_more c.loop.invariant (omega arith) _ c.after_module-p.ensures

pub returns : goal.returns
returns c = let all : c.loop.counter ≡ c.args.k = omega arith in rw (all) at c.loop.invariant.place
