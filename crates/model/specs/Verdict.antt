-- The quick and the exact test: what an answer means, and what computes it (document 01, 'Runs'). Assumes nothing.
use Rattle.std.specs.Prelude.{Bool, true, false, ℕ, zero, suc, ◌-◌, ◌≤◌, ◌<◌, ltb}
use Rattle.model.specs.Lists.{sum_of, SumIs}
use Rattle.model.specs.Sheet.{Module, Sheet}
use Rattle.model.specs.Run.{first}
use Rattle.model.specs.Demand.{ModuleDemand, IntervalDemand, module_demand, value}

-- clear, or over with a length and its sum
pub data Quick : Type 0 where
  clear : Quick
  over : ℕ → ℕ → Quick

-- clear, or over with an interval and its sum
pub data Exact : Type 0 where
  clear : Exact
  over : ℕ → ℕ → ℕ → Exact

-- What the answers mean.

-- no length from 1 to H has a sum above it; or the smallest such length, with its sum
abbrev pub SmallestOver : (ℕ → ℕ → Type 0) → ℕ → Quick → Type 0
SmallestOver R H clear = (L v : ℕ) → 1 ≤ L → L ≤ H → R L v → v ≤ L
SmallestOver R H (over L v) = (1 ≤ L) × (L ≤ H) × R L v × (L < v) × ((K w : ℕ) → 1 ≤ K → K < L → R K w → w ≤ K)

-- no interval up to H has a sum above its length; or the smallest such end, for it the largest such start, and the sum
abbrev pub FirstOver : (ℕ → ℕ → ℕ → Type 0) → ℕ → Exact → Type 0
FirstOver R H clear = (a b v : ℕ) → a < b → b ≤ H → R a b v → v ≤ b - a
FirstOver R H (over a b v) =
    (a < b) × (b ≤ H) × R a b v × (b - a < v)
    × ((c d w : ℕ) → c < d → d < b → R c d w → w ≤ d - c)
    × ((c w : ℕ) → a < c → c < b → R c b w → w ≤ b - c)

-- the sum of the modules' demands for a length
abbrev pub QuickSum : Sheet → ℕ → ℕ → Type 0
QuickSum s L v = SumIs (λ (m : Module) (w : ℕ). ModuleDemand m L w) s.modules v

-- the sum over the modules of the largest demand in a to b of any run from tick 0
abbrev pub ExactSum : Sheet → ℕ → ℕ → ℕ → Type 0
ExactSum s a b v = SumIs (λ (m : Module) (w : ℕ). IntervalDemand m a b w) s.modules v

abbrev pub QuickIs : Sheet → Quick → Type 0
QuickIs s q = SmallestOver (QuickSum s) s.horizon q

abbrev pub ExactIs : Sheet → Exact → Type 0
ExactIs s q = FirstOver (ExactSum s) s.horizon q

-- What computes them.

abbrev pub quick_pick : Bool → ℕ → ℕ → Quick → Quick
quick_pick true L v q = Quick.over L v
quick_pick false L v q = q

abbrev pub exact_pick : Bool → ℕ → ℕ → ℕ → Exact → Exact
exact_pick true a b v q = Exact.over a b v
exact_pick false a b v q = q

abbrev pub or_else : Exact → Exact → Exact
or_else clear y = y
or_else (over a b v) y = Exact.over a b v

-- the first of the n lengths from L on at which f exceeds the length
abbrev pub quick_from : (ℕ → ℕ) → ℕ → ℕ → Quick
quick_from f zero L = Quick.clear
quick_from f (suc n) L =
    let r = quick_from f n (suc L) in
    let v = f L in
    quick_pick (ltb L v) L v r

-- the largest start below n of an interval that ends at b and is over
abbrev pub exact_at : (ℕ → ℕ → ℕ) → ℕ → ℕ → Exact
exact_at f b zero = Exact.clear
exact_at f b (suc a) =
    let r = exact_at f b a in
    let v = f a b in
    exact_pick (ltb (b - a) v) a b v r

-- the same at the first of the n ends from b on that has one
abbrev pub exact_from : (ℕ → ℕ → ℕ) → ℕ → ℕ → Exact
exact_from f zero b = Exact.clear
exact_from f (suc n) b =
    let r = exact_from f n (suc b) in
    or_else (exact_at f b b) r

unfoldable pub quick_sum : Sheet → ℕ → ℕ
quick_sum s L = sum_of (λ m. module_demand m L) s.modules

unfoldable pub exact_sum : Sheet → ℕ → ℕ → ℕ
exact_sum s a b = sum_of (λ m. value m a b first) s.modules

unfoldable pub quick : Sheet → Quick
quick s = quick_from (quick_sum s) s.horizon 1

unfoldable pub exact : Sheet → Exact
exact s = exact_from (exact_sum s) s.horizon 1
