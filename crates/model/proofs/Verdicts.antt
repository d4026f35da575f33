-- Of a well_formed sheet, `quick` and `exact` give the one answer that meets its statement. Assumes nothing.
use mathlib.Core.Path.{◌≡◌, refl, sym, ◌∙◌, ap, ap₂}
use mathlib.Core.Bool.{Bool, true, false}
use Prim.Native.Nat.{ℕ, zero, suc, ◌+◌, ◌-◌, ◌≤◌, ◌<◌}
use native.Mathlib.Decide.{dec_lt}
use native.Mathlib.Omega.{arith}
use lib.Dec.{ltb}
use borrow.Author.Tests.{ltb-true, ltb-false}
use Rattle.model.specs.Sheet.{Sheet}
use Rattle.model.specs.WellFormed.{ModuleRule, WellFormed}
use Rattle.model.specs.Run.{first}
use Rattle.model.specs.Demand.{ModuleDemand, IntervalDemand, value, module_demand}
use Rattle.model.specs.Verdict.{Quick, Exact, SmallestOver, FirstOver, QuickSum, ExactSum, QuickIs, ExactIs, quick_pick, exact_pick, or_else, quick_from, exact_at, exact_from, quick_sum, exact_sum, quick, exact}
use Rattle.model.proofs.Lists.{sum_is, sum_only}
use Rattle.model.proofs.Demands.{interval_demand, interval_demand_unique, module_demand_lem, module_demand_unique}

-- The first length at which f exceeds it, where f L is the one number that R gives for L.
module _ (R : ℕ → ℕ → Type 0) (f : ℕ → ℕ) (holds : (L : ℕ) → R L (f L)) (only : (L v : ℕ) → R L v → v ≡ f L) (H : ℕ) where
  quick_from_is : (n L : ℕ) → 1 ≤ L → L + n ≡ H + 1 → ((K w : ℕ) → 1 ≤ K → K < L → R K w → w ≤ K) → SmallestOver R H (quick_from f n L)
  quick_from_is zero L hL e before = λ K v hK h r. before K v hK (omega arith) r
  quick_from_is (suc n) L hL e before = pick (ltb L (f L)) refl (λ b. quick_from_is n (suc L) (omega arith) (omega arith) b)
    where
      now : f L ≤ L → (K w : ℕ) → 1 ≤ K → R K w → K < suc L → Dec (K < L) → w ≤ K
      now t K w hK r h (yes k) = before K w hK k r
      now t K w hK r h (no k) = let same : K ≡ L = omega arith in rw same (omega (arith, only L w (rw same at r)))

      pick : (c : Bool) → ltb L (f L) ≡ c → (((K w : ℕ) → 1 ≤ K → K < suc L → R K w → w ≤ K) → SmallestOver R H (quick_from f n (suc L))) → SmallestOver R H (quick_pick c L (f L) (quick_from f n (suc L)))
      pick true t below = (hL, omega arith, holds L, ltb-true _ _ t, before)
      pick false t below = below (λ K w hK h r. now (ltb-false _ _ t) K w hK r h (dec_lt K L))

  smallest_unique : (p q : Quick) → SmallestOver R H p → SmallestOver R H q → p ≡ q
  smallest_unique Quick.clear Quick.clear hp hq = refl
  smallest_unique Quick.clear (Quick.over L v) hp hq = absurd (omega (arith, hp L v hq.0 hq.1 hq.2))
  smallest_unique (Quick.over L v) Quick.clear hp hq = absurd (omega (arith, hq L v hp.0 hp.1 hp.2))
  smallest_unique (Quick.over L v) (Quick.over K w) hp hq = tri (dec_lt L K) (dec_lt K L)
    where
      tri : Dec (L < K) → Dec (K < L) → Quick.over L v ≡ Quick.over K w
      tri (yes k) e = absurd (omega (arith, hq.4 L v hp.0 k hp.2))
      tri (no k) (yes e) = absurd (omega (arith, hp.4 K w hq.0 e hq.2))
      tri (no k) (no e) = let same : L ≡ K = omega arith in ap₂ Quick.over same (only L v hp.2 ∙ ap f same ∙ sym (only K w hq.2))

-- what an answer means for the intervals that end at b
AtIs : (ℕ → ℕ → ℕ → Type 0) → ℕ → Exact → Type 0
AtIs R b Exact.clear = (c w : ℕ) → c < b → R c b w → w ≤ b - c
AtIs R b (Exact.over a d v) = (d ≡ b) × (a < d) × R a d v × (d - a < v) × ((c w : ℕ) → a < c → c < d → R c d w → w ≤ d - c)

-- The first end, and for it the largest start, of an interval whose length f exceeds, where f a b is the one number that R gives for a to b.
module _ (R : ℕ → ℕ → ℕ → Type 0) (f : ℕ → ℕ → ℕ) (holds : (a b : ℕ) → R a b (f a b)) (only : (a b v : ℕ) → R a b v → v ≡ f a b) (H : ℕ) where
  exact_at_is : (b n : ℕ) → n ≤ b → ((c w : ℕ) → n ≤ c → c < b → R c b w → w ≤ b - c) → AtIs R b (exact_at f b n)
  unfolding AtIs
  exact_at_is b zero h later = λ c w hc r. later c w (omega arith) hc r
  exact_at_is b (suc a) h later = pick (ltb (b - a) (f a b)) refl (λ k. exact_at_is b a (omega arith) k)
    where
      now : f a b ≤ b - a → (c w : ℕ) → R c b w → c < b → a ≤ c → Dec (a < c) → w ≤ b - c
      now t c w r hb ha (yes k) = later c w k hb r
      now t c w r hb ha (no k) = let same : c ≡ a = omega arith in rw same (omega (arith, only a b w (rw same at r)))

      pick : (t : Bool) → ltb (b - a) (f a b) ≡ t → (((c w : ℕ) → a ≤ c → c < b → R c b w → w ≤ b - c) → AtIs R b (exact_at f b a)) → AtIs R b (exact_pick t a b (f a b) (exact_at f b a))
      pick true t below = (refl, h, holds a b, ltb-true _ _ t, later)
      pick false t below = below (λ c w ha hb r. now (ltb-false _ _ t) c w r hb ha (dec_lt a c))

  exact_from_is : (n b : ℕ) → 1 ≤ b → b + n ≡ H + 1 → ((c d w : ℕ) → c < d → d < b → R c d w → w ≤ d - c) → FirstOver R H (exact_from f n b)
  unfolding AtIs
  exact_from_is zero b hb e before = λ c d w hc hd r. before c d w hc (omega arith) r
  exact_from_is (suc n) b hb e before = pick (exact_at f b b) (exact_at_is b b (omega arith) (λ c w h k r. absurd (omega arith))) (λ k. exact_from_is n (suc b) (omega arith) (omega arith) k)
    where
      now : ((c w : ℕ) → c < b → R c b w → w ≤ b - c) → (c d w : ℕ) → R c d w → c < d → d < suc b → Dec (d < b) → w ≤ d - c
      now t c d w r hc hd (yes k) = before c d w hc k r
      now t c d w r hc hd (no k) = let same : d ≡ b = omega arith in rw same (t c w (omega arith) (rw same at r))

      pick : (q : Exact) → AtIs R b q → (((c d w : ℕ) → c < d → d < suc b → R c d w → w ≤ d - c) → FirstOver R H (exact_from f n (suc b))) → FirstOver R H (or_else q (exact_from f n (suc b)))
      pick Exact.clear t below = below (λ c d w hc hd r. now t c d w r hc hd (dec_lt d b))
      pick (Exact.over a d v) t below = let same : d ≡ b = t.0 in (t.1, omega arith, t.2, t.3, (λ c d' w hc hd r. before c d' w hc (omega arith) r), t.4)

  first_unique : (p q : Exact) → FirstOver R H p → FirstOver R H q → p ≡ q
  first_unique Exact.clear Exact.clear hp hq = refl
  first_unique Exact.clear (Exact.over a b v) hp hq = absurd (omega (arith, hp a b v hq.0 hq.1 hq.2))
  first_unique (Exact.over a b v) Exact.clear hp hq = absurd (omega (arith, hq a b v hp.0 hp.1 hp.2))
  first_unique (Exact.over a b v) (Exact.over c d w) hp hq = ends (dec_lt b d) (dec_lt d b)
    where
      starts : b ≡ d → Dec (a < c) → Dec (c < a) → Exact.over a b v ≡ Exact.over c d w
      starts s (yes k) e = absurd (omega (arith, hp.5 c w k (omega arith) (rw s hq.2)))
      starts s (no k) (yes e) = absurd (omega (arith, hq.5 a v e (omega arith) (rw s at hp.2)))
      starts s (no k) (no e) = let t : a ≡ c = omega arith in λ i. Exact.over (t i) (s i) ((only a b v hp.2 ∙ ap₂ f t s ∙ sym (only c d w hq.2)) i)

      ends : Dec (b < d) → Dec (d < b) → Exact.over a b v ≡ Exact.over c d w
      ends (yes k) e = absurd (omega (arith, hq.4 a b v hp.0 k hp.2))
      ends (no k) (yes e) = absurd (omega (arith, hp.4 c d w hq.0 e hq.2))
      ends (no k) (no e) = starts (omega arith) (dec_lt a c) (dec_lt c a)

-- The two tests of a sheet.
module _ (s : Sheet) (ok : WellFormed s) where
  pub quick_sum_lem : (L : ℕ) → QuickSum s L (quick_sum s L)
  unfolding quick_sum
  quick_sum_lem L = sum_is ModuleRule (λ m w. ModuleDemand m L w) (λ m. module_demand m L) (λ m r. module_demand_lem m r L) s.modules ok.modules

  pub quick_sum_only : (L v : ℕ) → QuickSum s L v → v ≡ quick_sum s L
  unfolding quick_sum
  quick_sum_only L =
      sum_only ModuleRule (λ m w. ModuleDemand m L w) (λ m. module_demand m L)
      (λ m r w h. module_demand_unique m L w (module_demand m L) h (module_demand_lem m r L)) s.modules ok.modules

  pub quick_is : QuickIs s (quick s)
  unfolding quick
  quick_is = quick_from_is (QuickSum s) (quick_sum s) quick_sum_lem quick_sum_only s.horizon s.horizon 1 (omega arith) (omega arith) (λ K w h k r. absurd (omega arith))

  pub quick_unique : (p q : Quick) → QuickIs s p → QuickIs s q → p ≡ q
  quick_unique = smallest_unique (QuickSum s) (quick_sum s) quick_sum_lem quick_sum_only s.horizon

  pub exact_sum_lem : (a b : ℕ) → ExactSum s a b (exact_sum s a b)
  unfolding exact_sum
  exact_sum_lem a b = sum_is ModuleRule (λ m w. IntervalDemand m a b w) (λ m. value m a b first) (λ m r. interval_demand m r a b) s.modules ok.modules

  pub exact_sum_only : (a b v : ℕ) → ExactSum s a b v → v ≡ exact_sum s a b
  unfolding exact_sum
  exact_sum_only a b =
      sum_only ModuleRule (λ m w. IntervalDemand m a b w) (λ m. value m a b first)
      (λ m r w h. interval_demand_unique m a b w (value m a b first) h (interval_demand m r a b)) s.modules ok.modules

  pub exact_is : ExactIs s (exact s)
  unfolding exact
  exact_is = exact_from_is (ExactSum s) (exact_sum s) exact_sum_lem exact_sum_only s.horizon s.horizon 1 (omega arith) (omega arith) (λ c d w h k r. absurd (omega arith))

  pub exact_unique : (p q : Exact) → ExactIs s p → ExactIs s q → p ≡ q
  exact_unique = first_unique (ExactSum s) (exact_sum s) exact_sum_lem exact_sum_only s.horizon
