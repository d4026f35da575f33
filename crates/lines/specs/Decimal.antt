-- The decimal digits of a number as ASCII bytes, first what they are and then what computes them (document 01, 'Program and examples'). Assumes nothing.
use Rattle.std.specs.Prelude.{◌≡◌, true, false, List, [], ◌∷◌, ℕ, zero, suc, ◌+◌, ◌-◌, ◌*◌, ◌/◌, ◌%◌, ◌≤◌, ltb}
use Rattle.model.specs.Lists.{All}

-- the bytes of 0 to 9
abbrev pub IsDigit : ℕ → Type 0
IsDigit c = (48 ≤ c) × (c ≤ 57)

-- the number that digits say, read from the left, where those before them say v
abbrev pub value_from : ℕ → List ℕ → ℕ
value_from v [] = v
value_from v (c ∷ cs) = value_from (10 * v + (c - 48)) cs

-- there is a digit, and the first of several is not 0
abbrev pub NoLeadingZero : List ℕ → Type 0
NoLeadingZero [] = ⊥
NoLeadingZero (c ∷ []) = Unit {0}
NoLeadingZero (c ∷ (d ∷ cs)) = c ≡ 48 → ⊥

pub record IsDecimal (n : ℕ) (ds : List ℕ) : Type 0 where
  pub digits : All IsDigit ds
  pub value : value_from 0 ds ≡ n
  pub leading : NoLeadingZero ds

-- What computes them.

abbrev pub digit : ℕ → ℕ
digit n = 48 + n

-- the digits of a number, before more of the line; n steps are enough for the number n
unfoldable pub decimal_from : ℕ → ℕ → List ℕ → List ℕ
decimal_from zero n more = digit n ∷ more
decimal_from (suc f) n more = elim (ltb n 10) [ true ↦ digit n ∷ more | false ↦ decimal_from f (n / 10) (digit (n % 10) ∷ more) ]

abbrev pub decimal : ℕ → List ℕ
decimal n = decimal_from n n []
