-- `lowest` is the lowest number below an end that passes a test, or the end where none does, and no other number is. Assumes nothing.
use mathlib.Core.Path.{◌≡◌, refl, sym, ◌∙◌}
use mathlib.Core.Bool.{Bool, true, false, cond, true≢false}
use Prim.Native.Nat.{ℕ, zero, suc, ◌≤◌, ◌<◌}
use native.Mathlib.Nat.{le_of_suc-le-suc}
use native.Mathlib.Decide.{dec_lt}
use native.Mathlib.Omega.{arith}
use Rattle.following.specs.Follow.{lowest}

pub lowest_most : (p : ℕ → Bool) (n : ℕ) → lowest p n ≤ n
lowest_most p zero = omega arith
lowest_most p (suc n) = pick (p 0) (lowest_most (λ i. p (suc i)) n)
  where
    pick : (c : Bool) → lowest (λ i. p (suc i)) n ≤ n → cond c 0 (suc (lowest (λ i. p (suc i)) n)) ≤ suc n
    pick true h = omega arith
    pick false h = omega arith

pub lowest_passes : (p : ℕ → Bool) (n : ℕ) → lowest p n < n → p (lowest p n) ≡ true
lowest_passes p zero h = absurd (omega arith)
lowest_passes p (suc n) h = pick (p 0) refl (lowest_passes (λ i. p (suc i)) n) h
  where
    rest : ℕ
    rest = lowest (λ i. p (suc i)) n

    pick : (c : Bool) → p 0 ≡ c → (rest < n → p (suc rest) ≡ true) → cond c 0 (suc rest) < suc n → p (cond c 0 (suc rest)) ≡ true
    pick true e below l = e
    pick false e below l = below (le_of_suc-le-suc l)

pub lowest_least : (p : ℕ → Bool) (n i : ℕ) → i < n → p i ≡ true → lowest p n ≤ i
lowest_least p zero i l h = absurd (omega arith)
lowest_least p (suc n) zero l h = rw h (omega arith)
lowest_least p (suc n) (suc i) l h = pick (p 0) (lowest_least (λ k. p (suc k)) n i (le_of_suc-le-suc l) h)
  where
    pick : (c : Bool) → lowest (λ k. p (suc k)) n ≤ i → cond c 0 (suc (lowest (λ k. p (suc k)) n)) ≤ suc i
    pick true below = omega arith
    pick false below = omega arith

-- so what a search finds, in whatever order it looks, is `lowest`
pub lowest_only : (p : ℕ → Bool) (n h : ℕ) → h ≤ n → (h < n → p h ≡ true) → ((i : ℕ) → i < h → p i ≡ false) → lowest p n ≡ h
lowest_only p n h l passes fails = pick (dec_lt (lowest p n) h) (dec_lt h (lowest p n))
  where
    pick : Dec (lowest p n < h) → Dec (h < lowest p n) → lowest p n ≡ h
    pick (yes a) b = absurd (true≢false (sym (lowest_passes p n (omega arith)) ∙ fails (lowest p n) a))
    pick (no a) (yes b) = let below : h < n = omega (arith, lowest_most p n) in absurd (omega (arith, lowest_least p n h below (passes below)))
    pick (no a) (no b) = omega arith
