-- `value` is the largest demand in an interval over all runs from a state; so state demand, interval demand and module demand are what computes them, and nothing else. Assumes nothing.
use mathlib.Core.Path.{◌≡◌, refl, sym, ◌∙◌, ap, subst, fun_ext}
use mathlib.Core.Bool.{Bool, true, false, ◌&&◌}
use Prim.Native.Nat.{ℕ, zero, suc, pred, ◌+◌, ◌-◌, ◌≤◌, ◌<◌}
use native.Mathlib.Nat.{suc-add, suc-sub-suc, zero-sub, sub-zero, zero-add, le_trans}
use native.Mathlib.Omega.{arith}
use lib.Dec.{leb-suc-suc}
use lib.ListN.{length}
use Rattle.model.specs.Lists.{when, sum_of, max_of, ticks}
use Rattle.model.specs.Sheet.{Task, Module}
use Rattle.model.specs.WellFormed.{ModuleRule}
use Rattle.model.specs.Run.{State, at, first, mode_at, mode_of, Inside, Reached, mode_0, Next, Run, later, IsRun, releases, gain_of, gain, demand}
use Rattle.model.specs.Demand.{Largest, StateDemand, ModuleDemand, IntervalDemand, nexts, gain_first, value, reached, in_mode, module_demand}
use Rattle.model.proofs.Lists.{largest_unique, le_max_of, le_max_below, max_below_reached}
use Rattle.model.proofs.Runs.{nexts_complete, best_next, after, after_run, later_run, second_next, period_positive, next_inside, some_run}
use Rattle.model.proofs.Reached.{reached_listed}
use Rattle.model.proofs.Rounds.{reached_true, true_reached}

-- The demand of a run, by its first tick.

gain_shift : (m : Module) (s : State) (t b : ℕ) → gain m s (suc t) (suc b) ≡ gain m s t b
unfolding gain gain_of
gain_shift m s t b = ap (λ (f : Task → ℕ). sum_of f (mode_of m s).tasks) (fun_ext each)
  where
    each : (k : Task) → gain_of s (suc t) (suc b) k ≡ gain_of s t b k
    each k = rw suc-add (ap (λ (c : Bool). when (releases s k && c) k.cost) (leb-suc-suc (t + k.LET) b))

ticks_shift : (f : ℕ → ℕ) (t n : ℕ) → ticks f (suc t) n ≡ ticks (λ u. f (suc u)) t n
ticks_shift f t zero = refl
ticks_shift f t (suc n) = ap (λ (k : ℕ). f (suc t) + k) (ticks_shift f (suc t) n)

ticks_later : (m : Module) (ρ : Run) (t b n : ℕ) → ticks (λ u. gain m (ρ u) u (suc b)) (suc t) n ≡ ticks (λ u. gain m (later ρ u) u b) t n
ticks_later m ρ t b n = ticks_shift (λ u. gain m (ρ u) u (suc b)) t n ∙ ap (λ (f : ℕ → ℕ). ticks f t n) (fun_ext (λ u. gain_shift m (later ρ u) u b))

pub demand_none : (m : Module) (ρ : Run) (a : ℕ) → demand m ρ a 0 ≡ 0
unfolding demand
demand_none m ρ a = rw zero-sub

-- what the first tick gains, and what the run behind it does, for which a and b are a tick nearer
pub demand_step : (m : Module) (ρ : Run) (a b : ℕ) → gain_first m a (suc b) (ρ 0) + demand m (later ρ) (pred a) b ≡ demand m ρ a (suc b)
unfolding demand
demand_step m ρ zero b = simp sub-zero (ap (λ (k : ℕ). gain m (ρ 0) 0 (suc b) + k) (sym (ticks_later m ρ 0 b b)))
demand_step m ρ (suc a) b = zero-add _ ∙ rw suc-sub-suc (sym (ticks_later m ρ a b (b - a)))

-- The largest demand.

-- the largest value of F is the largest of any G that gives the same on every run
largest_same : (m : Module) (F G : Run → ℕ) → ((ρ : Run) → F ρ ≡ G ρ) → (s : State) (v : ℕ) → Largest m s F v → Largest m s G v
largest_same m F G e s v h = ((h.0.0, h.0.1, sym (e h.0.0) ∙ h.0.2), λ w r. h.1 w (r.0, r.1, e r.0 ∙ r.2))

module _ (m : Module) (ok : ModuleRule m) where
  largest_zero : (F : Run → ℕ) → ((ρ : Run) → F ρ ≡ 0) → (s : State) → Inside m s → Largest m s F 0
  largest_zero F e s h =
      let r = some_run m ok s h in
      ((r.0, r.1, e r.0), λ w k. let z : F k.0 ≡ 0 = e k.0 in omega (arith, k.2))

  -- The key law: where B is largest from every state, the gain and the largest of B over the next states are largest one tick earlier.
  pub largest_step : (F : Run → ℕ) (B g : State → ℕ) → ((s : State) → Inside m s → Largest m s F (B s))
      → (s : State) → Inside m s → Largest m s (λ ρ. g (ρ 0) + F (later ρ)) (g s + max_of B (nexts m s))
  largest_step F B g below s h = (reach, bound)
    where
      reach : (ρ : Run) × IsRun m s ρ × (g (ρ 0) + F (later ρ) ≡ g s + max_of B (nexts m s))
      reach =
          let y = best_next m B s h in
          let r = (below y.0 (next_inside m ok s y.0 y.1)).0 in
          (after s r.0, after_run m s y.0 r.0 y.1 r.1, ap (λ (k : ℕ). g s + k) (r.2 ∙ y.2))

      bound : (w : ℕ) → (ρ : Run) × IsRun m s ρ × (g (ρ 0) + F (later ρ) ≡ w) → w ≤ g s + max_of B (nexts m s)
      bound w r =
          let ρ = r.0 in
          let n : Next m s (ρ 1) = second_next m s ρ r.1 in
          let up : F (later ρ) ≤ B (ρ 1) = (below (ρ 1) (next_inside m ok s (ρ 1) n)).1 (F (later ρ)) (later ρ, later_run m s ρ r.1, refl) in
          let top : B (ρ 1) ≤ max_of B (nexts m s) = le_max_of B (ρ 1) (nexts m s) (nexts_complete m s (ρ 1) n) in
          let same : g (ρ 0) ≡ g s = ap g r.1.starts in
          let e : g (ρ 0) + F (later ρ) ≡ w = r.2 in
          omega arith

  pub value_largest : (b a : ℕ) (s : State) → Inside m s → Largest m s (λ ρ. demand m ρ a b) (value m a b s)
  unfolding value
  value_largest zero a s h = largest_zero (λ ρ. demand m ρ a 0) (λ ρ. demand_none m ρ a) s h
  value_largest (suc b) a s h =
      largest_same m (λ ρ. gain_first m a (suc b) (ρ 0) + demand m (later ρ) (pred a) b) (λ ρ. demand m ρ a (suc b)) (λ ρ. demand_step m ρ a b) s (value m a (suc b) s)
      (largest_step (λ ρ. demand m ρ (pred a) b) (value m (pred a) b) (gain_first m a (suc b)) (value_largest b (pred a)) s h)

  pub state_demand : (s : State) → Inside m s → (L : ℕ) → StateDemand m s L (value m 0 L s)
  state_demand s h L = value_largest L 0 s h

  pub interval_demand : (a b : ℕ) → IntervalDemand m a b (value m a b first)
  interval_demand a b = value_largest b a first (period_positive m ok 0)

  -- a state of the mode has its largest state demand, and none has more
  some_state : (L k : ℕ) → (d : ℕ) × (d < (mode_at m k).period) × StateDemand m (at k d) L (in_mode m L k)
  some_state L k =
      let d = max_below_reached (λ d. value m 0 L (at k d)) (mode_at m k).period (period_positive m ok k) in
      (d.0, d.1, subst (StateDemand m (at k d.0) L) d.2 (state_demand (at k d.0) d.1 L))

  state_most : (L w : ℕ) (s : State) → Inside m s → StateDemand m s L w → w ≤ in_mode m L s.mode
  state_most L w s h r =
      rw (largest_unique _ w (value m 0 L s) r (state_demand s h L)) (le_max_below (λ d. value m 0 L (at s.mode d)) (mode_at m s.mode).period s.time h)

  -- a reached mode is counted
  reached_most : (L k : ℕ) → Reached m k → in_mode m L k ≤ module_demand m L
  unfolding module_demand
  reached_most L k r =
      let test : reached m k ≡ true = reached_true m k r in
      rw (ap (λ (b : Bool). when b (in_mode m L k)) test) at (le_max_below (λ j. when (reached m j) (in_mode m L j)) (length m.modes) k (reached_listed m ok k r))

  -- and the largest is that of a reached mode: of mode 0, if none has more
  some_reached : (L : ℕ) → (k : ℕ) × Reached m k × (in_mode m L k ≡ module_demand m L)
  unfolding module_demand
  some_reached L = pick (reached m top.0) refl top.2
    where
      top : (k : ℕ) × (k < length m.modes) × (when (reached m k) (in_mode m L k) ≡ module_demand m L)
      top = max_below_reached (λ k. when (reached m k) (in_mode m L k)) (length m.modes) ok.least

      pick : (b : Bool) → reached m top.0 ≡ b → when (reached m top.0) (in_mode m L top.0) ≡ module_demand m L → (k : ℕ) × Reached m k × (in_mode m L k ≡ module_demand m L)
      pick true e h = (top.0, true_reached m top.0 e, rw e at h)
      pick false e h = let none : 0 ≡ module_demand m L = rw e at h in (0, mode_0, omega (arith, reached_most L 0 mode_0))

  pub module_demand_lem : (L : ℕ) → ModuleDemand m L (module_demand m L)
  module_demand_lem L = (reach, bound)
    where
      bound : (w : ℕ) → (s : State) × Inside m s × Reached m s.mode × StateDemand m s L w → w ≤ module_demand m L
      bound w r = le_trans (state_most L w r.0 r.1 r.3) (reached_most L r.0.mode r.2)

      reach : (s : State) × Inside m s × Reached m s.mode × StateDemand m s L (module_demand m L)
      reach =
          let k = some_reached L in
          let d = some_state L k.0 in
          (at k.0 d.0, d.1, k.1, subst (StateDemand m (at k.0 d.0) L) k.2 d.2)

-- And no other number is the demand.

pub state_demand_unique : (m : Module) (s : State) (L v w : ℕ) → StateDemand m s L v → StateDemand m s L w → v ≡ w
state_demand_unique m s L v w = largest_unique _ v w

pub interval_demand_unique : (m : Module) (a b v w : ℕ) → IntervalDemand m a b v → IntervalDemand m a b w → v ≡ w
interval_demand_unique m a b v w = largest_unique _ v w

pub module_demand_unique : (m : Module) (L v w : ℕ) → ModuleDemand m L v → ModuleDemand m L w → v ≡ w
module_demand_unique m L v w = largest_unique _ v w
