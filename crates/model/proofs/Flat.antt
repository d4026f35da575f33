-- A task has four flat numbers. Assumes nothing.
use mathlib.Core.Path.{◌≡◌, refl}
use mathlib.Core.List.{List, [], ◌∷◌}
use Prim.Native.Nat.{◌*◌}
use native.Mathlib.Omega.{arith}
use lib.ListN.{length}
use Rattle.model.specs.Sheet.{Task}
use Rattle.model.specs.Flat.{task_numbers}

pub length_task_numbers : (ks : List Task) → length (task_numbers ks) ≡ 4 * length ks
length_task_numbers [] = refl
length_task_numbers (k ∷ ks) = omega (arith, length_task_numbers ks)
