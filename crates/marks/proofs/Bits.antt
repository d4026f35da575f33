-- Where bit j of a number is set by `or`, bit j is 1 and every other bit is as it was. Assumes nothing.
use mathlib.Core.Path.{◌≡◌, ap, ◌∙◌}
use mathlib.Core.Logic.{◌≢◌}
use Prim.Native.Nat.{ℕ, zero, suc, ◌+◌, ◌-◌, ◌*◌, ◌/◌, ◌%◌, ◌^◌, ◌<◌, max}
use native.Mathlib.Nat.{mul-mod_left, pow-suc, div-eq_of_lt, div_self, mod-lt, one-mul}
use native.Mathlib.Decide.{dec_lt}
use native.Mathlib.Omega.{arith}
use lib.Bits.{bit_or, or_shr, or_step}
use lib.Pow.{pow_pos, pow-lt, pow-add, shl-shr, shl_exact}

-- bit i of a number
abbrev pub bit : ℕ → ℕ → ℕ
bit a i = a / 2 ^ i % 2

bit_or_lem : (a b i : ℕ) → bit (bit_or a b) i ≡ max (bit a i) (bit b i)
bit_or_lem a b i = ap (λ (x : ℕ). x % 2) (or_shr a b i ∙ or_step (a / 2 ^ i) (b / 2 ^ i)) ∙ odd _ _ (omega (arith, mod-lt (a / 2 ^ i) {m = 2} (omega arith), mod-lt (b / 2 ^ i) {m = 2} (omega arith)))
  where
    odd : (x y : ℕ) → y < 2 → (x * 2 + y) % 2 ≡ y
    odd x y h = omega arith

even_pow : (k : ℕ) → 0 < k → 2 ^ k % 2 ≡ 0
even_pow zero h = absurd (omega arith)
even_pow (suc k) h = ap (λ (x : ℕ). x % 2) (pow-suc 2 k) ∙ mul-mod_left (2 ^ k) 2

pow_off : (j i : ℕ) → i ≢ j → bit (2 ^ j) i ≡ 0
pow_off j i h = pick (dec_lt j i)
  where
    pick : Dec (j < i) → bit (2 ^ j) i ≡ 0
    pick (yes l) = ap (λ (x : ℕ). x % 2) (div-eq_of_lt (pow-lt l))
    pick (no l) =
        let e : j ≡ (j - i) + i = omega arith in
        ap (λ (x : ℕ). bit (2 ^ x) i) e ∙ ap (λ (x : ℕ). bit x i) (pow-add 2 (j - i) i) ∙ ap (λ (x : ℕ). x % 2) (shl-shr (2 ^ (j - i)) i) ∙ even_pow (j - i) (omega arith)

pub set_on : (a j : ℕ) → bit (bit_or a (2 ^ j)) j ≡ 1
set_on a j = bit_or_lem a (2 ^ j) j ∙ omega (arith, ap (λ (x : ℕ). x % 2) (div_self (pow_pos j)), mod-lt (a / 2 ^ j) {m = 2} (omega arith))

pub set_other : (a j i : ℕ) → i ≢ j → bit (bit_or a (2 ^ j)) i ≡ bit a i
set_other a j i h = bit_or_lem a (2 ^ j) i ∙ omega (arith, pow_off j i h)

-- what is left of 1 that is shifted, in 32 bits
pub shifted_one : (j : ℕ) → j < 32 → 1 * 2 ^ j % 4294967296 ≡ 2 ^ j
shifted_one j h = shl_exact {a = 1} 1 j 32 (omega arith) (omega arith) ∙ one-mul (2 ^ j)
