-- The gain, and of the working memory the heads and the numbers that stay, are the only ones that meet their contracts. Assumes nothing.
use mathlib.Core.Path.{◌≡◌, sym, ◌∙◌}
use mathlib.Core.List.{List}
use Prim.Native.Nat.{ℕ, ◌-◌, ◌≤◌, ◌<◌}
use native.Mathlib.Omega.{arith}
use Rattle.model.specs.Run.{at, gain}
use Rattle.model.specs.Demand.{value}
use Rattle.layers.specs.declared.Shape.{Shape}
use Rattle.layers.specs.Layer.{Tells, Each}
use Rattle.layers.proofs.Unique.{each_unique}
use Rattle.heads.specs.Heads.{head_of, Filled, Kept}

module _ {s : Shape} {numbers : List ℕ} (tells : Tells s numbers) where
  -- gain_at
  pub gain_unique : (k d l r r' : ℕ) → Each s numbers (λ m. r ≡ gain m (at k d) 0 l) → Each s numbers (λ m. r' ≡ gain m (at k d) 0 l) → r ≡ r'
  gain_unique k d l = each_unique tells (λ m. gain m (at k d) 0 l)

  -- fill_heads: the heads of the module's modes
  pub filled_unique : (a b : ℕ) (u v : List ℕ) → Filled s numbers a b u → Filled s numbers a b v → (t j : ℕ) → t ≤ b → j < s.modes → head_of u t j ≡ head_of v t j
  filled_unique a b u v g h t j l i =
      each_unique tells (λ m. value m (a - t) (b - t) (at j 0)) (head_of u t j) (head_of v t j)
      (λ m ok told. g m ok told t (omega arith) l j (omega (arith, told.modes)))
      (λ m ok told. h m ok told t (omega arith) l j (omega (arith, told.modes)))

-- fill_heads: the numbers that stay
pub kept_unique : {w u v : List ℕ} → Kept w u → Kept w v → Kept u v
kept_unique g h = record { len = h.len ∙ sym g.len; above = λ x l. h.above x l ∙ sym (g.above x l) }
