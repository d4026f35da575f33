-- The sum over the first k elements of a list grows by one element at a time, and is at most k times what bounds each. Assumes nothing.
use mathlib.Core.Path.{◌≡◌}
use mathlib.Core.List.{List, [], ◌∷◌}
use Prim.Native.Nat.{ℕ, zero, suc, ◌+◌, ◌*◌, ◌≤◌, ◌<◌}
use native.Mathlib.Nat.{le_of_suc-le-suc, mul-suc}
use native.Mathlib.Numerals.{add-one}
use native.Mathlib.Omega.{arith}
use lib.ListN.{length, get_or, take}
use Rattle.model.specs.Lists.{sum_of}

module _ {A : Type 0} (f : A → ℕ) (d : A) where
  sum_suc : (xs : List A) (k : ℕ) → k < length xs → sum_of f (take (suc k) xs) ≡ sum_of f (take k xs) + f (get_or xs k d)
  sum_suc [] k h = absurd (omega arith)
  sum_suc (x ∷ xs) zero h = omega arith
  sum_suc (x ∷ xs) (suc k) h = omega (arith, sum_suc xs k (le_of_suc-le-suc h))

  pub sum_more : (xs : List A) (k : ℕ) → k < length xs → sum_of f (take (k + 1) xs) ≡ sum_of f (take k xs) + f (get_or xs k d)
  sum_more xs k h = rw (add-one k) (sum_suc xs k h)

  pub sum_most : (c : ℕ) (xs : List A) → ((k : ℕ) → k < length xs → f (get_or xs k d) ≤ c) → (k : ℕ) → k ≤ length xs → sum_of f (take k xs) ≤ c * k
  sum_most c xs each zero h = omega arith
  sum_most c xs each (suc k) h = omega (arith, mul-suc c k, sum_suc xs k h, each k h, sum_most c xs each k (omega arith))
