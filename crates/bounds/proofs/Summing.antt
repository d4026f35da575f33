-- The numbers at the lengths as the modules' bounds are added, one module after another: no sum exceeds them, and none is too large. Assumes nothing.
use mathlib.Core.Path.{◌≡◌, refl, ◌∙◌, ap}
use mathlib.Core.List.{List}
use Prim.Native.Nat.{ℕ, ◌+◌, ◌-◌, ◌*◌, ◌≤◌, ◌<◌}
use native.Mathlib.Omega.{arith}
use lib.ListN.{length, take}
use lib.Seq.{take-length}
use Rattle.model.specs.Lists.{sum_of}
use Rattle.model.specs.Sheet.{Module, Sheet, absent}
use Rattle.model.specs.Limits.{work_numbers}
use Rattle.model.specs.WellFormed.{WellFormed}
use Rattle.model.specs.Run.{first}
use Rattle.model.specs.Demand.{value}
use Rattle.model.specs.Verdict.{exact_sum}
use Rattle.layers.specs.Step.{look, Cleared}
use Rattle.sums.specs.Sums.{Fits}
use Rattle.model.proofs.Summing.{sum_more}
use Rattle.bounds.specs.Bounds.{ModuleAdded, SumsBounded}

-- no sum over the first k modules exceeds the number at its length, which is at most 32,000 for each of them
pub record BoundedTo (s : Sheet) (k lo width stop : ℕ) (w w' : List ℕ) : Type 0 where
  pub len : length w' ≡ length w
  pub above : (x : ℕ) → work_numbers ≤ x → look w' x ≡ look w x
  pub kept : (x : ℕ) → stop < x → x ≤ 2000 → look w' x ≡ look w x
  pub sums : (L i : ℕ) → i < width → 1 ≤ L → L ≤ stop → sum_of (λ (m : Module). value m (lo + i - L) (lo + i) first) (take k s.modules) ≤ look w' L
  pub low : (L : ℕ) → 1 ≤ L → L ≤ stop → look w' L ≤ 32000 * k

module _ (s : Sheet) (lo width stop : ℕ) where
  pub bounded_start : (w w' : List ℕ) → Cleared (stop + 1) w w' → BoundedTo s 0 lo width stop w' w'
  bounded_start w w' c = record {
    len = refl;
    above = λ x h. refl;
    kept = λ x h l. refl;
    sums = λ L i j h l. omega arith;
    low = λ L h l. omega (arith, c.zeros L (omega arith));
  }

  pub bounded_more : (k : ℕ) (w w' w'' : List ℕ) → k < length s.modules → BoundedTo s k lo width stop w w' → ModuleAdded s k lo width stop w' w'' → BoundedTo s (k + 1) lo width stop w w''
  bounded_more k w w' w'' number done new = record {
    len = new.len ∙ done.len;
    above = λ x h. new.above x h ∙ done.above x h;
    kept = λ x h l. new.kept x h l ∙ done.kept x h l;
    sums = λ L i j h l.
        let y = new.sums L h l in
        omega (arith, y.1, y.3 i j, done.sums L i j h l, sum_more (λ m. value m (lo + i - L) (lo + i) first) absent s.modules k number);
    low = λ L h l. let y = new.sums L h l in omega (arith, y.1, y.2, done.low L h l);
  }

  -- no number is too large for one module more
  pub bounded_fit : WellFormed s → (k : ℕ) (w w' : List ℕ) → k < length s.modules → BoundedTo s k lo width stop w w' → Fits stop w'
  bounded_fit ok k w w' number done L h l = omega (arith, done.low L h l, ok.modules_most)

  -- from the numbers before they were cleared
  pub bounded_end : (k : ℕ) (w w₀ w' : List ℕ) → k ≡ length s.modules → stop ≤ 2000 → Cleared (stop + 1) w w₀ → BoundedTo s k lo width stop w₀ w' → SumsBounded s lo width stop w w'
  unfolding exact_sum
  bounded_end k w w₀ w' all most c done = record {
    len = done.len ∙ c.len;
    above = λ x h. done.above x h ∙ c.above x (omega arith);
    kept = λ x h l. done.kept x h l ∙ c.above x (omega arith);
    sums = λ L i j h l b. let whole : take k s.modules ≡ s.modules = ap (λ (n : ℕ). take n s.modules) all ∙ take-length s.modules in rw whole at (done.sums L i j h l);
  }
