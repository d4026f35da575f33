-- The bounds of a range decide which of its lengths are in question; and what no bound of the whole leaves in question is over nowhere. Assumes nothing.
use mathlib.Core.Path.{◌≡◌}
use mathlib.Core.List.{List}
use Prim.Native.Nat.{ℕ, ◌+◌, ◌-◌, ◌≤◌, ◌<◌, min}
use native.Mathlib.Decide.{dec_le}
use native.Mathlib.Omega.{arith}
use borrow.Author.Tests.{ltb-false}
use Rattle.model.specs.Sheet.{Sheet}
use Rattle.model.specs.Verdict.{exact_sum}
use Rattle.layers.specs.Step.{look}
use Rattle.cells.specs.Cells.{Longest}
use Rattle.bounds.specs.Bounds.{SumsBounded}
use Rattle.search.specs.Search.{Passed, Beyond, Bounded}

module _ (s : Sheet) where
  module _ (n : ℕ) (e : n ≡ s.horizon) where
    -- no interval is longer than the horizon
    pub beyond_all : Beyond s n
    beyond_all a b h l = absurd (omega arith)

    -- where the whole is bounded
    pub beyond_longest : (stop : ℕ) (w : List ℕ) → Passed s 1 n w → Longest w n stop → Beyond s stop
    beyond_longest stop w passed none a b h l =
        let end : 1 + (b - 1) ≡ b = omega arith in
        let start : b - (b - a) ≡ a = omega arith in
        rw (end, start) at (passed (b - a) (b - 1) (omega arith) (omega arith) (omega arith) (none.longer (b - a) l (omega arith)))

  pub range_bounded : (lo range stop top last : ℕ) (w w' : List ℕ) → top ≡ min stop last → last + 1 ≡ lo + range → lo + range ≤ s.horizon + 1 → Beyond s stop
      → SumsBounded s lo range top w w' → Bounded s lo range w w'
  range_bounded lo range stop top last w w' e ends within beyond done = record {
    kept = record { len = done.len; below = λ x h. absurd (omega arith); above = done.above };
    passed = λ L i h k l q. pick L i h k l (dec_le L top) (ltb-false L (look w' L) q);
  }
    where
      pick : (L i : ℕ) → i < range → 1 ≤ L → L ≤ lo + i → Dec (L ≤ top) → look w' L ≤ L → exact_sum s (lo + i - L) (lo + i) ≤ L
      pick L i h k l (yes a) q = omega (arith, done.sums L i h k a l)
      pick L i h k l (no a) q =
          let length-is : lo + i - (lo + i - L) ≡ L = omega arith in
          rw length-is at (beyond (lo + i - L) (lo + i) (omega arith) (omega arith))
