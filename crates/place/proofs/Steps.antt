-- From one place to the next: the first mode stands behind ML, a mode behind the mode before it, and a module behind the last mode of the module before it. Assumes nothing.
use mathlib.Core.Path.{◌≡◌, refl, ap}
use mathlib.Core.List.{List, [], ◌∷◌}
use Prim.Native.Nat.{ℕ, zero, suc, ◌+◌, ◌<◌}
use native.Mathlib.Nat.{le_of_suc-le-suc}
use native.Mathlib.Omega.{arith}
use lib.ListN.{length, get_or, take}
use lib.Seq.{take-length}
use Rattle.model.specs.Lists.{sum_of}
use Rattle.model.specs.Sheet.{Module, Sheet, module_at}
use Rattle.model.specs.Run.{mode_at, idle}
use Rattle.format.specs.Place.{mode_bytes, module_bytes, module_place, mode_place}

-- a sum over one element more
pub sum_step : {A : Type 0} (f : A → ℕ) (d : A) (xs : List A) (i : ℕ) → i < length xs → sum_of f (take (suc i) xs) ≡ sum_of f (take i xs) + f (get_or xs i d)
sum_step f d [] i h = absurd (omega arith)
sum_step f d (x ∷ xs) zero h = omega arith
sum_step f d (x ∷ xs) (suc i) h = omega (arith, sum_step f d xs i (le_of_suc-le-suc h))

pub first_module : (s : Sheet) → module_place s 0 ≡ 4
unfolding module_place
first_module s = refl

pub first_mode : (s : Sheet) (k : ℕ) → mode_place s k 0 ≡ module_place s k + 4
unfolding mode_place
first_mode s k = omega arith

pub next_mode : (s : Sheet) (k j : ℕ) → j < length (module_at s k).modes → mode_place s k (suc j) ≡ mode_place s k j + mode_bytes (mode_at (module_at s k) j)
unfolding mode_place
next_mode s k j h = omega (arith, sum_step mode_bytes idle (module_at s k).modes j h)

pub next_module : (s : Sheet) (k : ℕ) → k < length s.modules → module_place s (suc k) ≡ mode_place s k (length (module_at s k).modes)
unfolding module_place mode_place
next_module s k h =
    let m : Module = module_at s k in
    omega (arith, sum_step module_bytes (record { modes = [] }) s.modules k h, ap (sum_of mode_bytes) (take-length m.modes))
