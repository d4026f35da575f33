-- How long each line is, and can be, by the digits of its numbers. Assumes nothing.
use mathlib.Core.Path.{◌≡◌, refl}
use mathlib.Core.List.{List}
use Prim.Native.Nat.{ℕ, ◌+◌, ◌*◌, ◌^◌, ◌≤◌, ◌<◌}
use native.Mathlib.Omega.{arith}
use lib.ListN.{length, length-append, length-map}
use Rattle.model.specs.Verdict.{Quick, Exact}
use Rattle.lines.specs.Decimal.{digit, decimal}
use Rattle.lines.specs.Lines.{refused_line, sheet_line_of, quick_line, exact_line, run_line}
use Rattle.lines.proofs.Decimals.{decimal_length}

pub quick_clear_length : length (quick_line Quick.clear) ≡ 12
unfolding quick_line
quick_clear_length = refl

pub exact_clear_length : length (exact_line Exact.clear) ≡ 12
unfolding exact_line
exact_clear_length = refl

pub refused_count : (n p : ℕ) → length (refused_line n p) ≡ 13 + length (decimal n) + length (decimal p)
unfolding refused_line
refused_count n p = simp length-append (omega arith)

pub sheet_count : (modules modes tasks switches horizon : ℕ)
    → length (sheet_line_of modules modes tasks switches horizon) ≡ 48 + length (decimal modules) + length (decimal modes) + length (decimal tasks) + length (decimal switches) + length (decimal horizon)
unfolding sheet_line_of
sheet_count modules modes tasks switches horizon = simp length-append (omega arith)

pub quick_count : (L v : ℕ) → length (quick_line (Quick.over L v)) ≡ 20 + length (decimal L) + length (decimal v)
unfolding quick_line
quick_count L v = simp length-append (omega arith)

pub exact_count : (a b v : ℕ) → length (exact_line (Exact.over a b v)) ≡ 21 + length (decimal a) + length (decimal b) + length (decimal v)
unfolding exact_line
exact_count a b v = simp length-append (omega arith)

pub run_count : (n : ℕ) (tape : List ℕ) → length (run_line n tape) ≡ 6 + length (decimal n) + length tape
unfolding run_line
run_count n tape = simp length-append (omega (arith, length-map tape digit))

-- Where numbers have at most j digits, and the last of a line at most k. So with 3 and 4 a sheet's line has at most 64 bytes.
module _ (j k : ℕ) (some : 1 ≤ j) (more : 1 ≤ k) where
  pub refused_length : (n p : ℕ) → n < 10 ^ j → p < 10 ^ k → length (refused_line n p) ≤ 13 + (j + k)
  refused_length n p h i = omega (arith, refused_count n p, decimal_length n j h some, decimal_length p k i more)

  pub sheet_length : (modules modes tasks switches horizon : ℕ) → modules < 10 ^ j → modes < 10 ^ j → tasks < 10 ^ j → switches < 10 ^ j → horizon < 10 ^ k
      → length (sheet_line_of modules modes tasks switches horizon) ≤ 48 + (4 * j + k)
  sheet_length modules modes tasks switches horizon g h i l m =
      omega (arith, sheet_count modules modes tasks switches horizon, decimal_length modules j g some, decimal_length modes j h some, decimal_length tasks j i some, decimal_length switches j l some, decimal_length horizon k m more)

  pub quick_length : (L v : ℕ) → L < 10 ^ j → v < 10 ^ k → length (quick_line (Quick.over L v)) ≤ 20 + (j + k)
  quick_length L v h i = omega (arith, quick_count L v, decimal_length L j h some, decimal_length v k i more)

  pub exact_length : (a b v : ℕ) → a < 10 ^ j → b < 10 ^ j → v < 10 ^ k → length (exact_line (Exact.over a b v)) ≤ 21 + (2 * j + k)
  exact_length a b v g h i = omega (arith, exact_count a b v, decimal_length a j g some, decimal_length b j h some, decimal_length v k i more)

pub run_length : (j n : ℕ) (tape : List ℕ) → 1 ≤ j → n < 10 ^ j → length (run_line n tape) ≤ 6 + j + length tape
run_length j n tape some h = omega (arith, run_count n tape, decimal_length n j h some)
