-- The printed digits of a number are its decimal digits, no other bytes are, and a number below 10 ^ k has at most k of them. Assumes nothing.
use mathlib.Core.Path.{◌≡◌, refl, sym, ◌∙◌, ap}
use mathlib.Core.List.{List, [], ◌∷◌}
use Prim.Native.Nat.{ℕ, zero, suc, pred, ◌+◌, ◌-◌, ◌*◌, ◌/◌, ◌%◌, ◌^◌, ◌≤◌, ◌<◌}
use native.Mathlib.Nat.{pow-succ'}
use native.Mathlib.Decide.{dec_lt}
use native.Mathlib.Omega.{arith}
use lib.ListN.{length}
use borrow.Author.Tests.{lt-ltb, le-ltb}
use Rattle.model.specs.Lists.{All}
use Rattle.lines.specs.Decimal.{IsDigit, value_from, NoLeadingZero, IsDecimal, digit, decimal_from, decimal}

-- The two steps of the recursion, and what holds of its result because each step keeps it.

last_digit : (f n : ℕ) (more : List ℕ) → n < 10 → decimal_from f n more ≡ digit n ∷ more
unfolding decimal_from
last_digit zero n more l = refl
last_digit (suc f) n more l = rw (lt-ltb n 10 l, decimal_from)

next_digit : (f n : ℕ) (more : List ℕ) → n ≤ f → 10 ≤ n → decimal_from f n more ≡ decimal_from (pred f) (n / 10) (digit (n % 10) ∷ more)
unfolding decimal_from
next_digit zero n more h g = absurd (omega arith)
next_digit (suc f) n more h g = rw (le-ltb n 10 g, decimal_from)

-- P is about a number, the bytes after it, and all the bytes
module _ (P : ℕ → List ℕ → List ℕ → Type 0)
    (last : (n : ℕ) (more : List ℕ) → n < 10 → P n more (digit n ∷ more))
    (next : (n : ℕ) (more ds : List ℕ) → 10 ≤ n → P (n / 10) (digit (n % 10) ∷ more) ds → P n more ds) where
  kept : (f n : ℕ) (more : List ℕ) → n ≤ f → P n more (decimal_from f n more)
  kept zero n more h = rw (last_digit zero n more (omega arith)) (last n more (omega arith))
  kept (suc f) n more h = pick (dec_lt n 10) (kept f (n / 10) (digit (n % 10) ∷ more))
    where
      pick : Dec (n < 10) → (n / 10 ≤ f → P (n / 10) (digit (n % 10) ∷ more) (decimal_from f (n / 10) (digit (n % 10) ∷ more)))
          → P n more (decimal_from (suc f) n more)
      pick (yes l) below = rw (last_digit (suc f) n more l) (last n more l)
      pick (no g) below = rw (next_digit (suc f) n more h (omega arith)) (next n more _ (omega arith) (below (omega arith)))

-- The digits that are computed are decimal digits of the number.

all_digits : (n : ℕ) → All IsDigit (decimal n)
all_digits n =
    kept
    (λ m more ds. All IsDigit more → All IsDigit ds)
    (λ m more l h. (omega arith, h))
    (λ m more ds g below h. below (omega arith, h))
    n n [] (omega arith) tt

value_is : (n : ℕ) → value_from 0 (decimal n) ≡ n
value_is n =
    kept
    (λ m more ds. value_from 0 ds ≡ value_from m more)
    (λ m more l. ap (λ (v : ℕ). value_from v more) (omega arith))
    (λ m more ds g below. below ∙ ap (λ (v : ℕ). value_from v more) (omega arith))
    n n [] (omega arith)

not_zero_first : (c : ℕ) (more : List ℕ) → (c ≡ 48 → ⊥) → NoLeadingZero (c ∷ more)
not_zero_first c [] h = tt
not_zero_first c (d ∷ more) h = h

positive_leading : (n : ℕ) → 1 ≤ n → NoLeadingZero (decimal n)
positive_leading n =
    kept
    (λ m more ds. 1 ≤ m → NoLeadingZero ds)
    (λ m more l p. not_zero_first (digit m) more (omega arith))
    (λ m more ds g below p. below (omega arith))
    n n [] (omega arith)

no_leading_zero : (n : ℕ) → NoLeadingZero (decimal n)
unfolding decimal_from
no_leading_zero zero = tt
no_leading_zero (suc n) = positive_leading (suc n) (omega arith)

pub decimal_is : (n : ℕ) → IsDecimal n (decimal n)
decimal_is n = record { digits = all_digits n; value = value_is n; leading = no_leading_zero n }

-- They are the only ones.

-- more steps than are needed change nothing
steps_enough : (f g n : ℕ) (more : List ℕ) → n ≤ f → n ≤ g → decimal_from f n more ≡ decimal_from g n more
steps_enough f g n more h k =
    kept
    (λ m more ds. (e : ℕ) → m ≤ e → ds ≡ decimal_from e m more)
    (λ m more l e k. sym (last_digit e m more l))
    (λ m more ds l below e k. below (pred e) (omega arith) ∙ sym (next_digit e m more k l))
    f n more h g k

-- a positive number v with the digit c behind it
digit_behind : (v c : ℕ) (more : List ℕ) → 1 ≤ v → IsDigit c → decimal_from (10 * v + (c - 48)) (10 * v + (c - 48)) more ≡ decimal_from v v (c ∷ more)
digit_behind v c more p h =
    let n : ℕ = 10 * v + (c - 48) in
    let quotient : n / 10 ≡ v = omega arith in
    let remainder : digit (n % 10) ≡ c = omega arith in
    next_digit n n more (omega arith) (omega arith) ∙ rw (quotient, remainder) (steps_enough (pred n) v v (c ∷ more) (omega arith) (omega arith))

-- a positive number v with the digits cs behind it
digits_behind : (v : ℕ) (cs : List ℕ) → 1 ≤ v → All IsDigit cs → decimal (value_from v cs) ≡ decimal_from v v cs
digits_behind v [] p h = refl
digits_behind v (c ∷ cs) p h = digits_behind (10 * v + (c - 48)) cs (omega arith) h.1 ∙ digit_behind v c cs p h.0

first_digit : (c : ℕ) (cs : List ℕ) → IsDigit c → decimal_from (10 * 0 + (c - 48)) (10 * 0 + (c - 48)) cs ≡ c ∷ cs
first_digit c cs h = last_digit (10 * 0 + (c - 48)) (10 * 0 + (c - 48)) cs (omega arith) ∙ ap (λ (b : ℕ). b ∷ cs) (omega arith)

-- where there are several, the first is not 0, so that it is a positive number with the others behind it
pub decimal_only : (n : ℕ) (ds : List ℕ) → IsDecimal n ds → decimal n ≡ ds
decimal_only n [] h = absurd h.leading
decimal_only n (c ∷ []) h = rw (← h.value) (first_digit c [] h.digits.0)
decimal_only n (c ∷ (d ∷ cs)) h =
    let first : IsDigit c = h.digits.0 in
    let not-zero : c ≡ 48 → ⊥ = h.leading in
    rw (← h.value) (digits_behind (10 * 0 + (c - 48)) (d ∷ cs) (omega arith) h.digits.1 ∙ first_digit c (d ∷ cs) first)

pub decimal_unique : (n : ℕ) (ds es : List ℕ) → IsDecimal n ds → IsDecimal n es → ds ≡ es
decimal_unique n ds es g h = sym (decimal_only n ds g) ∙ decimal_only n es h

-- How many there are.

-- l bytes, b of them after the number's digits: the quotient has one digit fewer, and one byte more after them
one_fewer : (n l b k : ℕ) → 10 ≤ n → ((j : ℕ) → n / 10 < 10 ^ suc j → l ≤ suc j + suc b) → n < 10 ^ suc k → l ≤ suc k + b
one_fewer n l b zero g below h = absurd (omega arith)
one_fewer n l b (suc k) g below h = omega (arith, below k (omega (arith, pow-succ' 10 (suc k))))

pub decimal_length : (n k : ℕ) → n < 10 ^ k → 1 ≤ k → length (decimal n) ≤ k
decimal_length n zero h p = absurd (omega arith)
decimal_length n (suc k) h p =
    omega (
      arith,
      kept
          (λ m more ds. (j : ℕ) → m < 10 ^ suc j → length ds ≤ suc j + length more)
          (λ m more l j h. omega arith)
          (λ m more ds g below j. one_fewer m (length ds) (length more) j g below)
          n n [] (omega arith) k h,
    )
