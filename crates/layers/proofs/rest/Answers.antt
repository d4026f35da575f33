-- `rest` hands back the remainder. Assumes nothing.
use native.Mathlib.Omega.{arith}
use native.Mathlib.Nat.{mod-eq_of_lt}
use mathlib.Core.Path.{sym}
use Rattle.layers.proofs.rest.Goals as goal

pub returns-then-x-p : goal.returns-then-x-p
returns-then-x-p c = sym (mod-eq_of_lt (omega arith))
