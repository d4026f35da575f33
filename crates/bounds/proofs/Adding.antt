-- The bounds of one module are added to the numbers at their lengths, one length after another. Assumes nothing.
use mathlib.Core.Path.{◌≡◌, refl, ◌∙◌, subst}
use mathlib.Core.List.{List}
use Prim.Native.Nat.{ℕ, ◌+◌, ◌*◌, ◌^◌, ◌≤◌, ◌<◌}
use native.Mathlib.Decide.{dec_le}
use native.Mathlib.Omega.{arith}
use lib.ListN.{length, set, length-set}
use lib.Seq.{get_or-set_same, get_or-set_other}
use Rattle.model.specs.Limits.{work_numbers}
use Rattle.model.specs.Sheet.{Module, Sheet, module_at}
use Rattle.model.specs.WellFormed.{ModuleRule}
use Rattle.layers.specs.declared.Shape.{Shape}
use Rattle.layers.specs.Step.{look}
use Rattle.layers.specs.Layer.{Told, Tells}
use Rattle.sums.specs.Sums.{Fits}
use Rattle.memory.specs.Map.{layer_from, cells_from}
use Rattle.tiles.specs.Tiles.{Within}
use Rattle.bounds.specs.Bounds.{Bound, Progressed, NextAdded, BoundsAdded, ModuleAdded}
use Rattle.bounds.proofs.Bounding.{progress_kept}

-- One length.

module _ (s : Shape) (numbers : List ℕ) (lo width n r : ℕ) (w w₁ : List ℕ) (short : n < 2000) (room : work_numbers ≤ length w)
    (on : Progressed s numbers lo width (n + 1) r w w₁) where
  -- the number is not too large
  pub next_fits : Tells s numbers → look w (n + 1) ≤ 7 * 32000 → look w₁ (n + 1) + r < 2 ^ 32
  next_fits t low = omega (arith, on.within.below (n + 1) (omega arith), (on.each t.owner t.rule t.told).low)

  pub next_added : NextAdded s numbers lo width n r w (set w₁ (n + 1) (look w₁ (n + 1) + r))
  next_added = record {
    len = length-set w₁ (n + 1) v ∙ on.within.len;
    sum = get_or-set_same w₁ (n + 1) v 0 (omega (arith, on.within.len)) ∙ omega (arith, on.within.below (n + 1) (omega arith));
    others = λ x h d. get_or-set_other w₁ (n + 1) x v 0 d ∙ on.within.below x (omega arith);
    above = λ x h. get_or-set_other w₁ (n + 1) x v 0 (omega arith) ∙ on.within.above x (omega arith);
    each = λ m ok told. progress_kept (omega arith) storing (on.each m ok told);
  }
    where
      v : ℕ
      v = look w₁ (n + 1) + r

      storing : Within (n + 1) (n + 2) w₁ (set w₁ (n + 1) v)
      storing = record {
        len = length-set w₁ (n + 1) v;
        below = λ x h. get_or-set_other w₁ (n + 1) x v 0 (omega arith);
        above = λ x h. get_or-set_other w₁ (n + 1) x v 0 (omega arith);
      }

-- One length after another.

module _ (s : Shape) (numbers : List ℕ) (lo width : ℕ) (w : List ℕ) where
  pub bounds_start : BoundsAdded s numbers lo width 0 w w
  bounds_start = record { len = refl; sums = λ m ok told L h l. absurd (omega arith); later = λ x h l. refl; above = λ x h. refl }

  pub bounds_more : (n r : ℕ) (w' w'' : List ℕ) → n < 2000 → BoundsAdded s numbers lo width n w w' → NextAdded s numbers lo width n r w' w'' → BoundsAdded s numbers lo width (n + 1) w w''
  bounds_more n r w' w'' short done new = record {
    len = new.len ∙ done.len;
    sums = λ m ok told L h l. pick m ok told L h l (dec_le L n);
    later = λ x h l. new.others x l (omega arith) ∙ done.later x (omega arith) l;
    above = λ x h. new.above x (omega arith) ∙ done.above x h;
  }
    where
      -- a bound is added at L
      Has : Module → ℕ → Type 0
      Has m L = (v : ℕ) × (look w'' L ≡ look w L + v) × (v ≤ 32000) × Bound m lo width L v

      pick : (m : Module) → ModuleRule m → Told m s numbers → (L : ℕ) → 1 ≤ L → L ≤ n + 1 → Dec (L ≤ n) → Has m L
      pick m ok told L h l (yes a) = let y = done.sums m ok told L h a in (y.0, new.others L (omega arith) (omega arith) ∙ y.1, y.2, y.3)
      pick m ok told L h l (no a) =
          let last : n + 1 ≡ L = omega arith in
          let on = new.each m ok told in
          subst (Has m) last (r, omega (arith, new.sum, done.later (n + 1) (omega arith) (omega arith)), omega (arith, on.low), on.bound)

  pub bounds_at : (k n : ℕ) (w' : List ℕ) → k ≡ n → BoundsAdded s numbers lo width k w w' → BoundsAdded s numbers lo width n w w'
  bounds_at k n w' e done = subst (λ (x : ℕ). BoundsAdded s numbers lo width x w w') e done

-- The module's part is begun in w₁: the numbers at the lengths are as they were in w.

module _ (stop : ℕ) (w w₁ : List ℕ) (begun : Within layer_from cells_from w w₁) (most : stop ≤ 2000) where
  pub fits_begun : Fits stop w → Fits stop w₁
  fits_begun low L h l = omega (arith, begun.below L (omega arith), low L h l)

  pub bounds_begun : (s : Shape) (numbers : List ℕ) (lo width : ℕ) (w₂ : List ℕ) → BoundsAdded s numbers lo width stop w₁ w₂ → BoundsAdded s numbers lo width stop w w₂
  bounds_begun s numbers lo width w₂ done = record {
    len = done.len ∙ begun.len;
    sums = λ m ok told L h l. let y = done.sums m ok told L h l in (y.0, omega (arith, y.1, begun.below L (omega arith)), y.2, y.3);
    later = λ x h l. done.later x h l ∙ begun.below x (omega arith);
    above = λ x h. done.above x h ∙ begun.above x h;
  }

-- The module k of a sheet, which the numbers tell.

pub module_added : (s : Sheet) (k lo width stop : ℕ) (shape : Shape) (numbers w w' : List ℕ) → ModuleRule (module_at s k) → Told (module_at s k) shape numbers
    → BoundsAdded shape numbers lo width stop w w' → ModuleAdded s k lo width stop w w'
module_added s k lo width stop shape numbers w w' rule told done = record {
  len = done.len;
  sums = done.sums (module_at s k) rule told;
  kept = done.later;
  above = λ x h. done.above x (omega arith);
}
