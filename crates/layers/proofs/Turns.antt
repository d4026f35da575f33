-- Positions that are turned: after n steps the number of mode time d of a mode of period p stands at (d + n) % p. The next mode time's number
-- stands where, a step later, that of d stands; each position has its mode time, so that a part's largest number is that of its mode times; and
-- remainders of divisors of the period turn along. Assumes nothing.
use mathlib.Core.Path.{◌≡◌, sym, ap, ◌∙◌}
use Prim.Native.Nat.{ℕ, ◌+◌, ◌-◌, ◌*◌, ◌/◌, ◌%◌, ◌≤◌, ◌<◌}
use native.Mathlib.Nat.{le_antisymm, zero-add, zero-mod, mod-lt, mod-eq_of_lt, mod-add-mod, add-mod_right, add-mul-mod_self_left, div-add-mod}
use native.Mathlib.Decide.{dec_lt, ℕ_discrete}
use native.Mathlib.Omega.{arith}
use lib.Dec.{eqb}
use borrow.Author.Tests.{lt-ltb, le-ltb, eq-eqb, ne_eqb}
use Rattle.model.specs.Lists.{max_below}
use Rattle.model.proofs.Division.{rest_of}
use Rattle.model.proofs.Lists.{le_max_below, max_below_le}
use Rattle.layers.specs.Layer.{next}

module _ (p d : ℕ) (inside : d < p) where
  pub next_inside : next p d < p
  unfolding next
  next_inside = pick (dec_lt (d + 1) p)
    where
      pick : Dec (d + 1 < p) → next p d < p
      pick (yes a) = rw (lt-ltb _ _ a) a
      pick (no a) = let last : p ≤ d + 1 = omega arith in rw (le-ltb _ _ last) (omega arith)

  pub turn_next : (n : ℕ) → (next p d + n) % p ≡ (d + (n + 1)) % p
  unfolding next
  turn_next n = pick (dec_lt (d + 1) p)
    where
      pick : Dec (d + 1 < p) → (next p d + n) % p ≡ (d + (n + 1)) % p
      pick (yes a) = rw (lt-ltb _ _ a) (ap (λ (x : ℕ). x % p) (omega arith))
      pick (no a) =
          let last : p ≤ d + 1 = omega arith in
          let whole : d + (n + 1) ≡ n + p = omega arith in
          let none : 0 + n ≡ n = omega arith in
          rw (le-ltb _ _ last, none, whole) (sym (add-mod_right n p))

-- each position is that of a mode time
pub turn_back : (p n x : ℕ) → x < p → (d : ℕ) × (d < p) × ((d + n) % p ≡ x)
turn_back p n x h =
    let r : n % p < p = mod-lt n (omega arith) in
    let whole : x + (p - n % p) + n ≡ x + p * (n / p + 1) = omega (arith, div-add-mod n p) in
    ((x + (p - n % p)) % p, mod-lt (x + (p - n % p)) (omega arith), mod-add-mod (x + (p - n % p)) p n ∙ ap (λ (y : ℕ). y % p) whole ∙ add-mul-mod_self_left x p (n / p + 1) ∙ mod-eq_of_lt h)

-- from the position of mode time d to that of a mode time t later
pub turn_on : (p d n t x y : ℕ) → x ≡ (d + n) % p → y ≡ (x + t) % p → y ≡ (d + t + n) % p
turn_on p d n t x y here there =
    let moved : d + n + t ≡ d + t + n = omega arith in
    there ∙ ap (λ (z : ℕ). (z + t) % p) here ∙ mod-add-mod (d + n) p t ∙ ap (λ (z : ℕ). z % p) moved

-- Remainders.

-- the same is added on both sides
turn_same : (q a c n : ℕ) → a % q ≡ c % q → (a + n) % q ≡ (c + n) % q
turn_same q a c n e = sym (mod-add-mod a q n) ∙ ap (λ (x : ℕ). (x + n) % q) e ∙ mod-add-mod c q n

-- and taken away again
turn_off : (q a n : ℕ) → 1 ≤ q → (a + n + (q - n % q)) % q ≡ a % q
turn_off q a n pos =
    let r : n % q < q = mod-lt n (omega arith) in
    let whole : a + n + (q - n % q) ≡ a + q * (n / q + 1) = omega (arith, div-add-mod n q) in
    ap (λ (x : ℕ). x % q) whole ∙ add-mul-mod_self_left a q (n / q + 1)

turn_cancel : (q a c n : ℕ) → 1 ≤ q → (a + n) % q ≡ (c + n) % q → a % q ≡ c % q
turn_cancel q a c n pos e = sym (turn_off q a n pos) ∙ turn_same q (a + n) (c + n) (q - n % q) e ∙ turn_off q c n pos

-- a position of a part whose period q divides leaves what the turned mode time leaves
module _ (p q : ℕ) (pos : 1 ≤ q) (divides : p % q ≡ 0) where
  turn_test : (a c n : ℕ) → eqb ((a + n) % p % q) ((c + n) % q) ≡ eqb (a % q) (c % q)
  turn_test a c n = pick (ℕ_discrete (a % q) (c % q))
    where
      pick : Dec (a % q ≡ c % q) → eqb ((a + n) % p % q) ((c + n) % q) ≡ eqb (a % q) (c % q)
      pick (yes e) = eq-eqb _ _ (rest_of (a + n) p q divides ∙ turn_same q a c n e) ∙ sym (eq-eqb _ _ e)
      pick (no e) = ne_eqb _ _ (λ same. e (turn_cancel q a c n pos (sym (rest_of (a + n) p q divides) ∙ same))) ∙ sym (ne_eqb _ _ e)

  -- a switch of period q is open one tick after mode time d
  pub turn_open : (d n : ℕ) → eqb ((d + (n + 1)) % p % q) (n % q) ≡ eqb ((d + 1) % q) 0
  turn_open d n =
      let moved : d + 1 + n ≡ d + (n + 1) = omega arith in
      rw (moved, zero-add, zero-mod) at (turn_test (d + 1) 0 n)

  -- a task of offset o and period q releases at mode time d
  pub turn_release : (d o n : ℕ) → o < q → eqb ((d + (n + 1)) % p % q) ((o + (n + 1)) % q) ≡ eqb (d % q) o
  turn_release d o n h = rw (mod-eq_of_lt h) at (turn_test d o (n + 1))

-- The largest of a part is the largest of its mode times.

pub turn_largest : (f g : ℕ → ℕ) (p n : ℕ) → ((d : ℕ) → d < p → f ((d + n) % p) ≡ g d) → max_below f p ≡ max_below g p
turn_largest f g p n same = le_antisymm (max_below_le f (max_below g p) p upper) (max_below_le g (max_below f p) p lower)
  where
    upper : (x : ℕ) → x < p → f x ≤ max_below g p
    upper x h =
        let t = turn_back p n x h in
        let e : f x ≡ g t.0 = ap f (sym t.2) ∙ same t.0 t.1 in
        omega (arith, e, le_max_below g p t.0 t.1)

    lower : (d : ℕ) → d < p → g d ≤ max_below f p
    lower d h = omega (arith, same d h, le_max_below f p ((d + n) % p) (mod-lt (d + n) (omega arith)))
