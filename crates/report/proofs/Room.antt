-- How long the first lines of a report can be, where their numbers have 16 bits, and the last of a verdict 32. Assumes nothing.
use mathlib.Core.Path.{◌≡◌, refl}
use Prim.Native.Nat.{ℕ, ◌+◌, ◌^◌, ◌≤◌, ◌<◌}
use native.Mathlib.Omega.{arith}
use lib.ListN.{length}
use Rattle.model.specs.Verdict.{Quick, Exact}
use Rattle.lines.specs.Lines.{quick_line, exact_line, sheet_line_of}
use Rattle.writing.proofs.Lengths.{sheet_length, quick_length, exact_length}

five : (n : ℕ) → n < 65536 → n < 10 ^ 5
five n h = let e : 10 ^ 5 ≡ 100000 = refl in omega (arith, e)

ten : (n : ℕ) → n < 4294967296 → n < 10 ^ 10
ten n h = let e : 10 ^ 10 ≡ 10000000000 = refl in omega (arith, e)

pub sheet_room : (a b c d e : ℕ) → a < 65536 → b < 65536 → c < 65536 → d < 65536 → e < 65536 → length (sheet_line_of a b c d e) ≤ 73
sheet_room a b c d e f g h i j = sheet_length 5 5 (omega arith) (omega arith) a b c d e (five a f) (five b g) (five c h) (five d i) (five e j)

pub quick_room : (L v : ℕ) → L < 65536 → v < 4294967296 → length (quick_line (Quick.over L v)) ≤ 35
quick_room L v h i = quick_length 5 10 (omega arith) (omega arith) L v (five L h) (ten v i)

pub quick_fits : {L v at n : ℕ} → L < 65536 → v < 4294967296 → at ≤ 73 → 16384 ≤ n → at + length (quick_line (Quick.over L v)) ≤ n
quick_fits {L} {v} h i low room = omega (arith, quick_room L v h i)

pub exact_room : (a b v : ℕ) → a < 65536 → b < 65536 → v < 4294967296 → length (exact_line (Exact.over a b v)) ≤ 41
exact_room a b v g h i = exact_length 5 10 (omega arith) (omega arith) a b v (five a g) (five b h) (ten v i)
