-- The largest demand from a state at a tick of an interval: what the state gains, and the largest of the stay and of the modes that open, a
-- tick later. Less the gain, it is the largest value after the state. Assumes nothing.
use mathlib.Core.Path.{◌≡◌, refl, sym, ◌∙◌, ap}
use mathlib.Core.Bool.{Bool, true, false, and-false}
use Prim.Native.Nat.{ℕ, suc, pred, ◌+◌, ◌-◌, ◌≤◌, ◌<◌, max}
use native.Mathlib.Nat.{sub-suc}
use native.Mathlib.Omega.{arith}
use lib.Dec.{leb}
use borrow.Author.Tests.{leb-true, leb-false, lt-leb}
use Rattle.model.specs.Lists.{when, max_of, max_below}
use Rattle.model.specs.Sheet.{Task, Module, modes_in}
use Rattle.model.specs.WellFormed.{TaskRule, ModuleRule}
use Rattle.model.specs.Run.{State, at, mode_of, Listed, releases, gain_of, gain}
use Rattle.model.specs.Demand.{nexts, gain_first, value}
use Rattle.model.proofs.Lists.{sum_of_same, sum_of_zero}
use Rattle.model.proofs.Runs.{rule_at}
use Rattle.following.specs.Follow.{opens, stay, stays, head, counted, leaves}
use Rattle.following.proofs.Opens.{value_split}
use Rattle.following.proofs.Choice.{stay_forced}

-- The gain.

module _ (m : Module) (s : State) where
  pub gain_before : (a t L : ℕ) → t < a → gain_first m (a - t) L s ≡ 0
  gain_before a t L l = let e : a - t ≡ suc (a - suc t) = omega arith in rw e

  pub gain_within : (a t L : ℕ) → a ≤ t → gain_first m (a - t) L s ≡ gain m s 0 L
  gain_within a t L l = let e : a - t ≡ 0 = omega arith in rw e

-- no instance is due at once
pub gain_none : (m : Module) → ModuleRule m → (s : State) → gain m s 0 0 ≡ 0
unfolding gain gain_of
gain_none m ok s = sum_of_same (TaskRule (mode_of m s).period) (gain_of s 0 0) (λ k. 0) none (mode_of m s).tasks (rule_at m ok s.mode).tasks ∙ sum_of_zero (mode_of m s).tasks
  where
    none : (k : Task) → TaskRule (mode_of m s).period k → gain_of s 0 0 k ≡ 0
    none k r = rw (lt-leb (0 + k.LET) 0 (omega arith), and-false (releases s k))

-- so one gain serves the ticks before the interval and those in it
pub gain_counted : (m : Module) → ModuleRule m → (s : State) (a b t : ℕ) → gain_first m (a - t) (b - t) s ≡ gain m s 0 (counted a b t)
gain_counted m ok s a b t = pick (leb a t) refl
  where
    pick : (c : Bool) → leb a t ≡ c → gain_first m (a - t) (b - t) s ≡ gain m s 0 (when c (b - t))
    pick true e = gain_within m s a t (b - t) (leb-true _ _ e)
    pick false e = gain_before m s a t (b - t) (leb-false _ _ e) ∙ sym (gain_none m ok s)

-- The value.

pub value_top : (m : Module) (s : State) (a b v : ℕ) → v ≡ value m a (suc b) s → v - gain_first m a (suc b) s ≡ max_of (value m (pred a) b) (nexts m s)
unfolding value
value_top m s a b v e = omega arith

pub value_tick : (m : Module) (s : State) (a b t : ℕ) → t < b
    → value m (a - t) (b - t) s ≡ gain_first m (a - t) (b - t) s + max_of (value m (a - suc t) (b - suc t)) (nexts m s)
unfolding value
value_tick m s a b t l = let e : b - t ≡ suc (b - suc t) = omega arith in rw (e, sub-suc a t)

-- behind the end nothing is due
pub value_over : (m : Module) (s : State) (a b t : ℕ) → b ≤ t → value m a (b - t) s ≡ 0
unfolding value
value_over m s a b t l = let e : b - t ≡ 0 = omega arith in rw e

module _ (m : Module) (ok : ModuleRule m) (s : State) where
  pub value_step : (a b t : ℕ) → t < b → value m (a - t) (b - t) s ≡ gain m s 0 (counted a b t) + max_of (value m (a - suc t) (b - suc t)) (nexts m s)
  value_step a b t l = value_tick m s a b t l ∙ ap (λ (g : ℕ). g + max_of (value m (a - suc t) (b - suc t)) (nexts m s)) (gain_counted m ok s a b t)

  pub step_top : (a b t v : ℕ) → t < b → v ≡ value m (a - t) (b - t) s → leaves m a b t s v ≡ max_of (value m (a - suc t) (b - suc t)) (nexts m s)
  step_top a b t v l e = omega (arith, value_step a b t l)

  -- a walk along the stay from its end finds the values of its states, with those of the first states of the modes at each tick
  pub value_walk : Listed m s → (a b t : ℕ) → t < b
      → value m (a - t) (b - t) s
      ≡ gain m s 0 (counted a b t)
      + max (when (stays m s) (value m (a - suc t) (b - suc t) (stay s))) (max_below (λ j. when (opens m s j) (value m (a - suc t) (b - suc t) (at j 0))) (modes_in m))
  value_walk h a b t l = value_step a b t l ∙ ap (λ (g : ℕ). gain m s 0 (counted a b t) + g) (value_split m ok s h (value m (a - suc t) (b - suc t)))

  -- where no mode that opens has the largest value, that of the stay is known
  pub value_forced : Listed m s → (a b v : ℕ) → v ≡ value m a (suc b) s → head m (value m (pred a) b) s (v - gain_first m a (suc b) s) ≡ modes_in m
      → value m (pred a) b (stay s) ≡ v - gain_first m a (suc b) s
  value_forced h a b v e none = (stay_forced m ok s h (value m (pred a) b) (v - gain_first m a (suc b) s) (value_top m s a b v e) none).1
