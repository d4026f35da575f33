-- The row of sums as the modules' demands are added, one module after another. Assumes nothing.
use mathlib.Core.Path.{◌≡◌, refl, ◌∙◌, ap}
use mathlib.Core.List.{List}
use Prim.Native.Nat.{ℕ, ◌+◌, ◌≤◌, ◌<◌}
use native.Mathlib.Omega.{arith}
use lib.ListN.{length, take}
use lib.Seq.{take-length}
use Rattle.model.specs.Lists.{sum_of}
use Rattle.model.specs.Sheet.{Sheet, absent, module_at}
use Rattle.model.specs.Limits.{work_numbers}
use Rattle.model.specs.WellFormed.{ModuleRule, WellFormed}
use Rattle.model.specs.Demand.{module_demand}
use Rattle.model.specs.Emptied.{reached_part}
use Rattle.model.specs.Verdict.{quick_sum}
use Rattle.model.proofs.Lists.{all_at}
use Rattle.layers.specs.declared.Shape.{Shape}
use Rattle.layers.specs.Step.{look, Cleared}
use Rattle.layers.specs.Layer.{Told}
use Rattle.sums.specs.Sums.{Fits, Summed}
use Rattle.quick.specs.Sums.{ModuleAdded, SumsOf}
use Rattle.model.proofs.Summing.{sum_more, sum_most}
use Rattle.model.proofs.Emptied.{reached_part_lem, module_bound}

-- the sum of the demands in L ticks of the first k modules
abbrev sum_to : Sheet → ℕ → ℕ → ℕ
sum_to s k L = sum_of (λ m. module_demand m L) (take k s.modules)

-- at each length up to n that sum stands
pub record SumsTo (s : Sheet) (n k : ℕ) (w w' : List ℕ) : Type 0 where
  pub len : length w' ≡ length w
  pub sums : (L : ℕ) → 1 ≤ L → L ≤ n → look w' L ≡ sum_to s k L
  pub above : (x : ℕ) → work_numbers ≤ x → look w' x ≡ look w x

module _ (s : Sheet) (n : ℕ) where
  -- the demands of a module whose reached modes the numbers tell
  pub module_added : (k : ℕ) (shape : Shape) (numbers w w' : List ℕ) → ModuleRule (reached_part (module_at s k)) → Told (reached_part (module_at s k)) shape numbers → Summed shape numbers n w w'
      → ModuleAdded s n k w w'
  module_added k shape numbers w w' rule told done = record {
    len = done.beside.len;
    sums = λ L h l. omega (arith, done.sums _ rule told L h l, reached_part_lem (module_at s k) L);
    above = λ x h. done.beside.above x (omega arith);
  }

  pub sums_start : (w w' : List ℕ) → Cleared (n + 1) w w' → SumsTo s n 0 w' w'
  sums_start w w' c = record { len = refl; sums = λ L h l. c.zeros L (omega arith); above = λ x h. refl }

  pub sums_more : (k : ℕ) (w w' w'' : List ℕ) → k < length s.modules → SumsTo s n k w w' → ModuleAdded s n k w' w'' → SumsTo s n (k + 1) w w''
  sums_more k w w' w'' number done new = record {
    len = new.len ∙ done.len;
    sums = λ L h l. omega (arith, new.sums L h l, done.sums L h l, sum_more (λ m. module_demand m L) absent s.modules k number);
    above = λ x h. new.above x h ∙ done.above x h;
  }

  module _ (ok : WellFormed s) (short : n ≤ s.horizon) where
    -- no sum is too large for one module more
    pub sums_fit : (k : ℕ) (w w' : List ℕ) → k < length s.modules → SumsTo s n k w w' → Fits n w'
    sums_fit k w w' number done L h l = omega (arith, done.sums L h l, sum_most (λ m. module_demand m L) absent 32000 s.modules each k (omega arith), ok.modules_most)
      where
        each : (j : ℕ) → j < length s.modules → module_demand (module_at s j) L ≤ 32000
        each j i = omega (arith, module_bound (module_at s j) (all_at ModuleRule absent s.modules ok.modules j i) L, ok.horizon_most)

    -- from the numbers before they were cleared
    pub sums_end : (k : ℕ) (w w₀ w' : List ℕ) → k ≡ length s.modules → Cleared (n + 1) w w₀ → SumsTo s n k w₀ w' → SumsOf s n w w'
    unfolding quick_sum
    sums_end k w w₀ w' same c done = record {
      len = done.len ∙ c.len;
      sums = λ L h l. done.sums L h l ∙ ap (sum_of (λ m. module_demand m L)) (ap (λ (j : ℕ). take j s.modules) same ∙ take-length s.modules);
      above = λ x h. done.above x h ∙ c.above x (omega (arith, ok.horizon_most));
    }
