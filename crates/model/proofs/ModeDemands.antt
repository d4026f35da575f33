-- Inside one mode period the mode demand is what the formula of its tasks computes: a run that stays in the mode exists, and each such run has
-- that demand; and a mode demand is one number. Assumes nothing.
use mathlib.Core.Path.{◌≡◌, refl, sym, ◌∙◌, ap}
use mathlib.Core.Bool.{Bool, true, false, ◌&&◌}
use Prim.Native.Nat.{ℕ, zero, suc, ◌+◌, ◌-◌, ◌*◌, ◌/◌, ◌%◌, ◌≤◌, ◌<◌}
use native.Mathlib.Nat.{add-mul, one-mul, zero-mul, suc-mod, mod-lt, mod_self, mod-eq_of_lt, zero-mod}
use native.Mathlib.Decide.{dec_lt}
use native.Mathlib.Omega.{arith}
use lib.Dec.{leb}
use lib.ListN.{length}
use borrow.Author.Tests.{leb-true, leb-false}
use Rattle.model.specs.Lists.{when, ticks, All}
use Rattle.model.specs.Sheet.{Task, Module}
use Rattle.model.specs.WellFormed.{TaskRule, ModuleRule}
use Rattle.model.specs.Run.{State, at, mode_at, Run, Next, on, again, releases, gain_of, gain, demand}
use Rattle.model.specs.Demand.{Stays, ModeDemand, instances, mode_demand}
use Rattle.model.proofs.Lists.{ticks_same, ticks_sum_of, sum_of_same}
use Rattle.model.proofs.Runs.{mode_rule}
use Rattle.model.proofs.Division.{div_mono, rounded_up_step}

-- A run that stays in its mode, period after period.

abbrev staying : Module → ℕ → Run
staying m k t = at k (t % (mode_at m k).period)

staying_next : (m : Module) (k t : ℕ) → 0 < (mode_at m k).period → Next m (staying m k t) (staying m k (suc t))
staying_next m k t pos = pick (mod-lt t pos) (dec_lt ((staying m k t).time + 1) (mode_at m k).period)
  where
    pick : (staying m k t).time < (mode_at m k).period → Dec ((staying m k t).time + 1 < (mode_at m k).period) → Next m (staying m k t) (staying m k (suc t))
    pick l (yes h) = on h (ap (at k) (suc-mod t _ ∙ mod-eq_of_lt (omega arith) ∙ omega arith))
    pick l (no h) =
        let e : suc (staying m k t).time ≡ (mode_at m k).period = omega arith in
        again (omega arith) (ap (at k) (suc-mod t _ ∙ rw e (mod_self _)))

staying_stays : (m : Module) (k b : ℕ) → 0 < (mode_at m k).period → b ≤ (mode_at m k).period → Stays m k b (staying m k)
staying_stays m k b pos h =
    record {
      run = record { starts = ap (at k) (zero-mod _); steps = λ t. staying_next m k t pos };
      stays = λ t l. ap (at k) (mod-eq_of_lt (omega arith));
    }

-- One task.

when_mul : (c : Bool) (n : ℕ) → when c n ≡ when c 1 * n
when_mul true n = sym (one-mul n)
when_mul false n = sym (zero-mul n)

-- How many instances of the task are due at or before b, and how many are released before t: their difference counts those of an interval.
abbrev due_by : Task → ℕ → ℕ
due_by x b = (b + (x.period - (x.offset + x.LET))) / x.period

abbrev released_before : Task → ℕ → ℕ
released_before x t = (t + (x.period - (x.offset + 1))) / x.period

module _ {period : ℕ} (x : Task) (h : TaskRule period x) (b : ℕ) where
  -- where an instance of tick t would be due after b, all that are due by b are released before t ..
  due_released : (t : ℕ) → b < t + x.LET → due_by x b ≤ released_before x t
  due_released t l = div_mono x.period _ _ (omega arith) (omega arith)

  -- .. and where it would not, all that are released up to t are due by b
  released_due : (t : ℕ) → t + x.LET ≤ b → released_before x (suc t) ≤ due_by x b
  released_due t l = div_mono x.period _ _ (omega arith) (omega arith)

  instances_none : (t : ℕ) → b ≤ t → instances x t b ≡ 0
  unfolding instances
  instances_none t l = omega (arith, due_released t (omega arith))

  -- from t on there is one more than from the next tick on exactly where t releases one that is due in time
  instances_step : (k t : ℕ) → instances x t b ≡ when (releases (at k t) x && leb (t + x.LET) b) 1 + instances x (suc t) b
  unfolding instances
  instances_step k t = pick (releases (at k t) x) (rounded_up_step x.period x.offset t (omega arith)) (leb (t + x.LET) b) refl
    where
      pick : (r : Bool) → released_before x (suc t) ≡ released_before x t + when r 1 → (d : Bool) → leb (t + x.LET) b ≡ d
          → due_by x b - released_before x t ≡ when (r && d) 1 + (due_by x b - released_before x (suc t))
      pick false e d q = omega arith
      pick true e true q = omega (arith, released_due t (leb-true _ _ q))
      pick true e false q = omega (arith, due_released t (leb-false _ _ q))

  task_demand : (k t n : ℕ) → t + n ≡ b → ticks (λ u. gain_of (at k u) u b x) t n ≡ instances x t b * x.cost
  unfolding gain_of
  task_demand k t zero e = rw (instances_none t (omega arith), zero-mul)
  task_demand k t (suc n) e = rw (instances_step k t, add-mul) (omega (arith, when_mul (releases (at k t) x && leb (t + x.LET) b) x.cost, task_demand k (suc t) n (omega arith)))

-- The mode.

stays_demand : (m : Module) (k a b : ℕ) (ρ : Run) → All (TaskRule (mode_at m k).period) (mode_at m k).tasks → a ≤ b → Stays m k b ρ → demand m ρ a b ≡ mode_demand (mode_at m k) a b
unfolding demand gain mode_demand
stays_demand m k a b ρ h l s =
    ticks_same _ (λ t. gain m (at k t) t b) a (b - a) (λ t u. ap (λ (q : State). gain m q t b) (s.stays t (omega arith)))
    ∙ ticks_sum_of (λ t. gain_of (at k t) t b) (mode_at m k).tasks a (b - a)
    ∙ sum_of_same (TaskRule (mode_at m k).period) _ _ (λ x r. task_demand x r b k a (b - a) (omega arith)) (mode_at m k).tasks h

pub mode_demand_lem : (m : Module) → ModuleRule m → (k a b : ℕ) → k < length m.modes → a ≤ b → b ≤ (mode_at m k).period → ModeDemand m k a b (mode_demand (mode_at m k) a b)
mode_demand_lem m h k a b inside l fits =
    let r = mode_rule m h k inside in
    record { some = (staying m k, staying_stays m k b r.least fits); every = λ ρ. stays_demand m k a b ρ r.tasks l }

pub mode_demand_unique : (m : Module) (k a b v w : ℕ) → ModeDemand m k a b v → ModeDemand m k a b w → v ≡ w
mode_demand_unique m k a b v w d e = sym (d.every d.some.0 d.some.1) ∙ e.every d.some.0 d.some.1
