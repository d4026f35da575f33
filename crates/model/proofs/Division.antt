-- A greater number has no smaller quotient; and the quotient of t less an offset, rounded up, grows from t to t + 1 by one exactly where t
-- divided by the period leaves the offset; and rests by divisors of a divisor. Assumes nothing.
use mathlib.Core.Path.{◌≡◌, refl}
use mathlib.Core.Bool.{Bool, true, false}
use Prim.Native.Nat.{ℕ, suc, ◌+◌, ◌-◌, ◌*◌, ◌/◌, ◌%◌, ◌≤◌, ◌<◌}
use native.Mathlib.Nat.{add-mul, one-mul, le_trans, mod-lt, div-add-mod', div-mul-le_self, le-div_iff_mul-le, div-eq_of_lt-le, dvd_of_mod-eq-zero, mod-mod_of_dvd}
use native.Mathlib.Decide.{dec_lt}
use native.Mathlib.Omega.{arith}
use lib.Dec.{eqb}
use borrow.Author.Tests.{eqb-true, eqb-false}
use Rattle.model.specs.Lists.{when}

pub div_mono : (T x y : ℕ) → 0 < T → x ≤ y → x / T ≤ y / T
div_mono T x y pos h = (le-div_iff_mul-le pos).1 (le_trans (div-mul-le_self x T) h)

-- x less o, divided by T and rounded up, is q where x less o is above q - 1 periods and not above q
rounded_up : (T o q x : ℕ) → o < T → q * T + o < x + T → x ≤ q * T + o → (x + (T - (o + 1))) / T ≡ q
rounded_up T o q x h low high = div-eq_of_lt-le T (omega arith) (rw (add-mul, one-mul) (omega arith))

pub rounded_up_step : (T o t : ℕ) → o < T → (suc t + (T - (o + 1))) / T ≡ (t + (T - (o + 1))) / T + when (eqb (t % T) o) 1
rounded_up_step T o t h = pick (t / T) (div-add-mod' t T) (mod-lt t (omega arith)) (eqb (t % T) o) refl (dec_lt (t % T) o)
  where
    pick : (q : ℕ) → q * T + t % T ≡ t → t % T < T → (c : Bool) → eqb (t % T) o ≡ c → Dec (t % T < o)
        → (suc t + (T - (o + 1))) / T ≡ (t + (T - (o + 1))) / T + when c 1
    pick q e l true c d =
        let r : t % T ≡ o = eqb-true _ _ c in
        omega (arith, rounded_up T o q t h (omega arith) (omega arith), rounded_up T o (suc q) (suc t) h (omega arith) (omega arith))
    pick q e l false c (yes d) = omega (arith, rounded_up T o q t h (omega arith) (omega arith), rounded_up T o q (suc t) h (omega arith) (omega arith))
    pick q e l false c (no d) =
        let r : t % T ≡ o → ⊥ = eqb-false _ _ c in
        omega (arith, rounded_up T o (suc q) t h (omega arith) (omega arith), rounded_up T o (suc q) (suc t) h (omega arith) (omega arith))

-- what a number leaves, divided by p, leaves what the number leaves, divided by a divisor of p
pub rest_of : (x p q : ℕ) → p % q ≡ 0 → x % p % q ≡ x % q
rest_of x p q divides = mod-mod_of_dvd q x (dvd_of_mod-eq-zero q divides)
