-- What a writer of a line does to the caller's memory. Assumes nothing.
use Rattle.std.specs.Prelude.{◌≡◌, List, ◌++◌, ℕ, ◌+◌, ◌≤◌, length, take, drop}
use Rattle.model.specs.Lists.{All}

-- o' is o with the bytes xs from the place `at` on, and `next` is the place behind them
pub record Put (at next : ℕ) (xs o o' : List ℕ) : Type 0 where
  pub ends : next ≡ at + length xs
  pub len : length o' ≡ length o
  pub before : take next o' ≡ take at o ++ xs
  pub after : drop next o' ≡ drop next o

-- each mode of a tape is printed as one digit
abbrev pub OneDigitEach : List ℕ → Type 0
OneDigitEach tape = All (λ n. n ≤ 9) tape
