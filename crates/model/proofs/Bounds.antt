-- The demand of a module in an interval is at most 16 for each tick: a mode has at most 16 tasks, and the instances of one task do not overlap.
-- So it is below 2 ^ 16 in every interval that is no longer than the greatest horizon. Assumes nothing.
use mathlib.Core.Path.{◌≡◌, refl, subst}
use mathlib.Core.Bool.{Bool, true, false, ◌&&◌}
use mathlib.Core.List.{List, [], ◌∷◌, Memᴰ}
use Prim.Native.Nat.{ℕ, zero, suc, ◌+◌, ◌-◌, ◌*◌, ◌%◌, ◌≤◌, ◌<◌, min}
use native.Mathlib.Nat.{suc-mod, mod-lt, mod-eq_of_lt, mod_self, mul-suc, suc-mul, sub-zero}
use native.Mathlib.Decide.{dec_lt}
use native.Mathlib.Numerals.{add-one}
use native.Mathlib.Omega.{arith}
use lib.Dec.{ltb, leb}
use lib.ListN.{length}
use borrow.Author.Tests.{lt-ltb, le-ltb, ne_eqb, leb-true}
use Rattle.model.specs.Lists.{when, sum_of}
use Rattle.model.specs.Sheet.{Task, Module}
use Rattle.model.specs.WellFormed.{TaskRule, ModuleRule}
use Rattle.model.specs.Limits.{max_horizon}
use Rattle.model.specs.Run.{State, at, mode_at, mode_of, Inside, Next, on, again, switched, releases, gain_of, gain}
use Rattle.model.specs.Demand.{value, listed_demand}
use Rattle.model.proofs.Lists.{max_below_le}
use Rattle.model.proofs.Runs.{best_next, rule_at, task_rule, next_inside}
use Rattle.model.proofs.Splitting.{Unsplit, end_unsplit, switch_unsplit}

-- Sums.

sum_of_within : {A : Type 0} (f g h : A → ℕ) (xs : List A) → ((x : A) → Memᴰ x xs → f x + g x ≤ h x) → sum_of f xs + sum_of g xs ≤ sum_of h xs
sum_of_within f g h [] e = omega arith
sum_of_within f g h (x ∷ xs) e = omega (arith, e x (Memᴰ.head refl), sum_of_within f g h xs (λ y i. e y (Memᴰ.tail i)))

sum_of_constant : {A : Type 0} (v : ℕ) (xs : List A) → sum_of (λ x. v) xs ≡ length xs * v
sum_of_constant v [] = omega arith
sum_of_constant v (x ∷ xs) = rw suc-mul (omega (arith, sum_of_constant v xs))

-- Remainders.

-- one tick after d the remainder is one greater, or the period T is over
data Turn (d T : ℕ) : Type 0 where
  goes : (d + 1) % T ≡ suc (d % T) → Turn d T
  ends : (d + 1) % T ≡ 0 → suc (d % T) ≡ T → Turn d T

turn : (d T : ℕ) → 0 < T → Turn d T
turn d T pos = pick (mod-lt d pos) (dec_lt (suc (d % T)) T)
  where
    pick : d % T < T → Dec (suc (d % T) < T) → Turn d T
    pick l (yes h) = goes (rw (add-one d, suc-mod) (mod-eq_of_lt h))
    pick l (no h) = let e : suc (d % T) ≡ T = omega arith in ends (rw (add-one d, suc-mod, e) (mod_self T)) e

-- One task.

-- how far the mode time d is into the period of the task
abbrev phase : Task → ℕ → ℕ
phase k d = d % k.period

-- the ticks that are left at mode time d of an instance released before
busy : Task → ℕ → ℕ
busy k d = when (ltb k.offset (phase k d)) (k.offset + k.LET - phase k d)

busy_none : (k : Task) (d : ℕ) → phase k d ≤ k.offset → busy k d ≡ 0
unfolding busy
busy_none k d h = rw (le-ltb _ _ h)

busy_left : (k : Task) (d : ℕ) → k.offset < phase k d → busy k d ≡ k.offset + k.LET - phase k d
unfolding busy
busy_left k d h = rw (lt-ltb _ _ h)

module _ {period : ℕ} (k : Task) (h : TaskRule period k) (s : State) (L : ℕ) where
  abbrev gained : ℕ
  gained = gain_of s 0 (suc L) k

  gained_none : (phase k s.time ≡ k.offset → ⊥) → gained ≡ 0
  unfolding gain_of
  gained_none n = rw (ne_eqb _ _ n)

  gained_most : gained ≤ min k.LET (suc L)
  unfolding gain_of
  gained_most = pick (releases s k) (leb (0 + k.LET) (suc L)) refl
    where
      pick : (r q : Bool) → leb (0 + k.LET) (suc L) ≡ q → when (r && q) k.cost ≤ min k.LET (suc L)
      pick false q e = omega arith
      pick true false e = omega arith
      pick true true e = omega (arith, leb-true)

  -- where no instance is split one tick later, one released before has at most one tick left, and one released now takes no longer
  task_last : Unsplit k (s.time + 1) → gained + L ≤ suc L - busy k s.time
  task_last z = pick (turn s.time k.period (omega arith)) (dec_lt k.offset (phase k s.time)) (dec_lt (phase k s.time) k.offset)
    where
      pick : Turn s.time k.period → Dec (k.offset < phase k s.time) → Dec (phase k s.time < k.offset) → gained + L ≤ suc L - busy k s.time
      pick r (no l) (yes u) = omega (arith, busy_none k s.time (omega arith), gained_none (omega arith))
      pick (goes e) (yes l) u = omega (arith, z (omega arith), busy_left k s.time l, gained_none (omega arith))
      pick (goes e) (no l) (no u) = omega (arith, z (omega arith), busy_none k s.time (omega arith), gained_most)
      pick (ends n e) (yes l) u = omega (arith, busy_left k s.time l, gained_none (omega arith))
      pick (ends n e) (no l) (no u) = omega (arith, busy_none k s.time (omega arith), gained_most)

  -- what the task gains in a tick, and the ticks then free of instances released before, are within the ticks that were free of them
  task_step : gained + (L - busy k (s.time + 1)) ≤ suc L - busy k s.time
  task_step = pick (turn s.time k.period (omega arith)) (dec_lt (phase k s.time) k.offset) (dec_lt k.offset (phase k s.time))
    where
      pick : Turn s.time k.period → Dec (phase k s.time < k.offset) → Dec (k.offset < phase k s.time)
          → gained + (L - busy k (s.time + 1)) ≤ suc L - busy k s.time
      pick (ends z e) l u = omega (arith, task_last (λ o. absurd (omega arith)))
      pick (goes e) (yes l) u = omega (arith, busy_none k s.time (omega arith), gained_none (omega arith))
      pick (goes e) (no l) (yes u) = omega (arith, busy_left k s.time u, busy_left k (s.time + 1) (omega arith), gained_none (omega arith))
      pick (goes e) (no l) (no u) = omega (arith, busy_none k s.time (omega arith), busy_left k (s.time + 1) (omega arith), gained_most)

-- The tasks of a mode.

-- of the next L ticks, those that no instance released before takes, over the tasks of the mode
free : Module → State → ℕ → ℕ
free m s L = sum_of (λ k. L - busy k s.time) (mode_of m s).tasks

-- v is at most 16 for each of the next L ticks, less those that instances released before take
Within : Module → State → ℕ → ℕ → Type 0
Within m s L v = v + length (mode_of m s).tasks * L ≤ free m s L + 16 * L

within_most : (m : Module) (s : State) (L v : ℕ) → Within m s L v → v ≤ 16 * L
unfolding Within free
within_most m s L v h = omega (arith, sum_of_within (λ k. L - busy k s.time) (λ k. 0) (λ k. L) (mode_of m s).tasks (λ k i. omega arith), sum_of_constant L (mode_of m s).tasks)

module _ (m : Module) (ok : ModuleRule m) where
  -- a tick that stays in the mode
  stay : (s : State) (L v : ℕ) → Within m (at s.mode (s.time + 1)) L v → Within m s (suc L) (gain m s 0 (suc L) + v)
  unfolding Within free gain
  stay s L v h =
      let step = sum_of_within (gain_of s 0 (suc L)) (λ k. L - busy k (s.time + 1)) (λ k. suc L - busy k s.time) (mode_of m s).tasks (λ k i. task_step k (task_rule m ok s.mode k i) s L) in
      omega (arith, step, mul-suc (length (mode_of m s).tasks) L, (rule_at m ok s.mode).count)

  -- a tick after which the mode begins again or is left: its mode time then splits no instance
  leave : (s : State) (L v : ℕ) → ((k : Task) → Memᴰ k (mode_of m s).tasks → Unsplit k (s.time + 1))
      → v ≤ 16 * L → Within m s (suc L) (gain m s 0 (suc L) + v)
  unfolding Within free gain
  leave s L v d h =
      let last = sum_of_within (gain_of s 0 (suc L)) (λ k. L) (λ k. suc L - busy k s.time) (mode_of m s).tasks (λ k i. task_last k (task_rule m ok s.mode k i) s L (d k i)) in
      omega (arith, last, sum_of_constant L (mode_of m s).tasks, mul-suc (length (mode_of m s).tasks) L, (rule_at m ok s.mode).count)

  within_step : (s t : State) (L v : ℕ) → Next m s t → Within m t L v → Within m s (suc L) (gain m s 0 (suc L) + v)
  within_step s t L v (on l e) h = stay s L v (rw e at h)
  within_step s t L v (again l e) h = leave s L v (λ k i. rw l (end_unsplit m ok s.mode k i)) (within_most m t L v h)
  within_step s t L v (switched w j l e) h = leave s L v (λ k i. switch_unsplit m ok s.mode k i w j (s.time + 1) l) (within_most m t L v h)

  -- The largest demand.

  -- in an interval from 0 on
  value_within : (L : ℕ) (s : State) → Inside m s → Within m s L (value m 0 L s)
  unfolding value Within
  value_within zero s h = omega arith
  value_within (suc L) s h =
      let r = best_next m (value m 0 L) s h in
      subst (λ (v : ℕ). Within m s (suc L) (gain m s 0 (suc L) + v)) r.2 (within_step s r.0 L (value m 0 L r.0) r.1 (value_within L r.0 (next_inside m ok s r.0 r.1)))

  -- at most 16 for each tick
  pub value_bound : (a b : ℕ) (s : State) → Inside m s → value m a b s ≤ 16 * (b - a)
  unfolding value
  value_bound a zero s h = omega arith
  value_bound zero (suc b) s h = rw sub-zero (within_most m s (suc b) _ (value_within (suc b) s h))
  value_bound (suc a) (suc b) s h =
      let r = best_next m (value m a b) s h in
      omega (arith, r.2, value_bound a b r.0 (next_inside m ok s r.0 r.1))

  pub value_fits : (a b : ℕ) (s : State) → Inside m s → b - a ≤ max_horizon → value m a b s < 65536
  value_fits a b s h l = omega (arith, value_bound a b s h)

  -- and so from all states of listed modes
  pub listed_bound : (L : ℕ) → listed_demand m L ≤ 16 * L
  unfolding listed_demand
  listed_bound L = max_below_le _ (16 * L) (length m.modes) (λ k h. max_below_le _ (16 * L) (mode_at m k).period (λ d i. omega (arith, value_bound 0 L (at k d) i)))
