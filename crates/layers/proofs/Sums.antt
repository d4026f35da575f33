-- Sums below a number, and what a list's own sum and largest element are below one. Assumes nothing.
use mathlib.Core.Path.{◌≡◌, refl}
use Prim.Native.Nat.{ℕ, zero, suc, ◌+◌, ◌≤◌, ◌<◌}
use native.Mathlib.Decide.{dec_le}
use native.Mathlib.Numerals.{add-one}
use native.Mathlib.Omega.{arith}
use mathlib.Core.List.{List}
use Prim.Native.Nat.{◌*◌, max}
use lib.ListN.{length, take}
use Rattle.std.specs.List.{sum_by, fold}
use Rattle.std.proofs.lemmas.List.Sums.{sum_by_more, fold_more}
use Rattle.model.specs.Lists.{max_below}
use Rattle.layers.specs.Step.{sum_below, look}

pub sum_same : (f g : ℕ → ℕ) (n : ℕ) → ((k : ℕ) → k < n → f k ≡ g k) → sum_below f n ≡ sum_below g n
sum_same f g zero h = refl
sum_same f g (suc n) h = omega (arith, h n (omega arith), sum_same f g n (λ k l. h k (omega arith)))

pub sum_grows : (f : ℕ → ℕ) (k n : ℕ) → k ≤ n → sum_below f k ≤ sum_below f n
sum_grows f k zero h = let z : k ≡ 0 = omega arith in rw z (omega arith)
sum_grows f k (suc n) h = pick (dec_le k n) (sum_grows f k n)
  where
    pick : Dec (k ≤ n) → (k ≤ n → sum_below f k ≤ sum_below f n) → sum_below f k ≤ sum_below f n + f n
    pick (yes a) below = omega (arith, below a)
    pick (no a) below = let e : k ≡ suc n = omega arith in rw e (omega arith)

pub sum_more : (f : ℕ → ℕ) (k : ℕ) → sum_below f k + f k ≡ sum_below f (k + 1)
sum_more f k = rw (add-one k)

-- laid end to end, each ends before a later one begins
pub sum_before : (f : ℕ → ℕ) (j k : ℕ) → j < k → sum_below f j + f j ≤ sum_below f k
sum_before f j k h = omega (arith, sum_more f j, sum_grows f (j + 1) k (omega arith))

pub sum_most : (f : ℕ → ℕ) (b n : ℕ) → ((k : ℕ) → k < n → f k ≤ b) → sum_below f n ≤ b * n
sum_most f b zero h = omega arith
sum_most f b (suc n) h = omega (arith, h n (omega arith), sum_most f b n (λ k l. h k (omega arith)))

-- The first n numbers of a list, as an iterator adds them up or finds the largest of them.

pub sum_front : (xs : List ℕ) (n : ℕ) → n ≤ length xs → sum_by (λ x. x) (take n xs) ≡ sum_below (look xs) n
sum_front xs zero h = refl
sum_front xs (suc n) h = omega (arith, rw (add-one n) at (sum_by_more (λ x. x) xs n 0 (omega arith)), sum_front xs n (omega arith))

pub max_front : (xs : List ℕ) (n : ℕ) → n ≤ length xs → fold max 0 (take n xs) ≡ max_below (look xs) n
max_front xs zero h = refl
max_front xs (suc n) h = omega (arith, rw (add-one n) at (fold_more max 0 xs n 0 (omega arith)), max_front xs n (omega arith))
