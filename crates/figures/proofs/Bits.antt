-- Of what is left of a word of marks, the ticks below its lowest set digit are not marked, and where that is the first one, it is marked. Assumes nothing.
use mathlib.Core.Path.{◌≡◌, refl}
use mathlib.Core.List.{List}
use Prim.Native.Nat.{ℕ, zero, suc, ◌+◌, ◌-◌, ◌*◌, ◌/◌, ◌%◌, ◌^◌, ◌<◌, min}
use native.Mathlib.Nat.{pow-zero, pow-succ', div-one, div-div-eq-div-mul}
use native.Mathlib.Omega.{arith}
use lib.ListN.{get_or}
use lib.Count.{under, count_trailing_zeros}
use lib.Pow.{shr-shr}
use borrow.Author.Tests.{eq-eqb, ne_eqb}
use Rattle.memory.specs.Map.{mark_row_numbers}
use Rattle.figures.specs.Offers.{Quiet}

low_digits : (k n x : ℕ) → x < count_trailing_zeros k n → n / 2 ^ x % 2 ≡ 0
unfolding count_trailing_zeros
low_digits zero n x h = absurd (omega arith)
low_digits (suc k) n x h = pick (n % 2) refl x h (low_digits k (n / 2))
  where
    pick : (d : ℕ) → n % 2 ≡ d → (x : ℕ) → x < under d (count_trailing_zeros k (n / 2)) → ((y : ℕ) → y < count_trailing_zeros k (n / 2) → n / 2 / 2 ^ y % 2 ≡ 0) → n / 2 ^ x % 2 ≡ 0
    pick zero e zero h rest = rw (pow-zero, div-one) e
    pick zero e (suc x) h rest = rw (pow-succ', ← div-div-eq-div-mul n 2 (2 ^ x)) (rest x (omega arith))
    pick (suc d) e x h rest = absurd (omega arith)

first_digit : (k n : ℕ) → count_trailing_zeros (suc k) n ≡ 0 → n % 2 ≡ 1
unfolding count_trailing_zeros
first_digit k n h = pick (n % 2) refl h
  where
    pick : (d : ℕ) → n % 2 ≡ d → under d (count_trailing_zeros k (n / 2)) ≡ 0 → n % 2 ≡ 1
    pick zero e h = absurd (omega arith)
    pick (suc d) e h = omega arith

-- what is left, from tick t on, of the word that tick t of mode k is in
abbrev pub rest_at : List ℕ → ℕ → ℕ → ℕ
rest_at bits k t = get_or bits (mark_row_numbers * k + t / 32) 0 / 2 ^ (t % 32)

pub quiet_of : (bits : List ℕ) (k t r : ℕ) → r ≡ min (count_trailing_zeros 32 (rest_at bits k t)) (32 - t % 32) → Quiet bits k t r
quiet_of bits k t r e = record { most = omega arith; none = λ x h. ne_eqb _ _ (clear x h); some = λ z. eq-eqb _ _ (first_digit 31 (rest_at bits k t) (omega arith)) }
  where
    clear : (x : ℕ) → x < r → rest_at bits k (t + x) % 2 ≡ 1 → ⊥
    clear x h one =
        let word : (t + x) / 32 ≡ t / 32 = omega arith in
        let digit : (t + x) % 32 ≡ t % 32 + x = omega arith in
        let zero : rest_at bits k t / 2 ^ x % 2 ≡ 0 = low_digits 32 (rest_at bits k t) x (omega arith) in
        omega (arith, rw (word, digit) at one, rw (shr-shr (get_or bits (mark_row_numbers * k + t / 32) 0) (t % 32) x) at zero)
