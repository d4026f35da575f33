-- The first length whose sum exceeds it, as the search for it finds it. Assumes nothing.
use mathlib.Core.Path.{◌≡◌, sym, ◌∙◌}
use Prim.Native.Nat.{ℕ, zero, suc, ◌+◌, ◌-◌, ◌≤◌, ◌<◌}
use native.Mathlib.Omega.{arith}
use borrow.Author.Tests.{lt-ltb, le-ltb}
use Rattle.model.specs.Verdict.{Quick, quick_from}

module _ (f : ℕ → ℕ) where
  -- no length from a to b has a sum above it, b left out
  abbrev pub Within : ℕ → ℕ → Type 0
  Within a b = (k : ℕ) → a ≤ k → k < b → f k ≤ k

  -- past n such lengths the search goes on as if it began there
  passed : (n m a : ℕ) → Within a (a + n) → quick_from f (n + m) a ≡ quick_from f m (a + n)
  passed zero m a none = let e : zero + m ≡ m = omega arith in let here : a + zero ≡ a = omega arith in rw (e, here)
  passed (suc n) m a none =
      let e : suc n + m ≡ suc (n + m) = omega arith in
      let on : a + suc n ≡ suc a + n = omega arith in
      rw (e, on, le-ltb a (f a) (none a (omega arith) (omega arith))) (passed n m (suc a) (λ k low high. none k (omega arith) (omega arith)))

  pub none_over : (H : ℕ) → Within 1 (H + 1) → Quick.clear ≡ quick_from f H 1
  none_over H none = let e : H + 0 ≡ H = omega arith in sym (rw e at (passed H 0 1 (λ k low high. none k low (omega arith))))

  pub first_over : (H L : ℕ) → (1 ≤ L) × (L < H + 1) × (L < f L) × Within 1 L → Quick.over L (f L) ≡ quick_from f H 1
  first_over H L (low, high, over, before) =
      let e : (L - 1) + suc (H - L) ≡ H = omega arith in
      let here : 1 + (L - 1) ≡ L = omega arith in
      sym (rw (e, here) at (passed (L - 1) (suc (H - L)) 1 (λ k a b. before k a (omega arith))) ∙ rw (lt-ltb L (f L) over))
