-- The value of a state, by a walk along its stay. Assumes nothing.
use mathlib.Core.Path.{◌≡◌, sym, ◌∙◌}
use Prim.Native.Nat.{ℕ, suc, ◌+◌, ◌-◌, ◌≤◌, ◌<◌, max, min}
use native.Mathlib.Decide.{dec_lt}
use native.Mathlib.Omega.{arith}
use lib.Dec.{ltb}
use borrow.Author.Tests.{lt-ltb, le-ltb}
use Rattle.model.specs.Lists.{when, max_below}
use Rattle.model.specs.Sheet.{Module, modes_in}
use Rattle.model.specs.WellFormed.{ModuleRule}
use Rattle.model.specs.Run.{at, mode_at, gain}
use Rattle.model.specs.Demand.{value}
use Rattle.model.proofs.Bounds.{value_fits}
use Rattle.following.specs.Follow.{opens, counted}
use Rattle.following.proofs.Ticks.{value_over, value_walk}

-- A walk along a stay of the mode k, from mode time d at tick t.

-- the value i ticks on, where the stay goes on to there
abbrev pub stay_value : Module → (a b t k d i : ℕ) → ℕ
stay_value m a b t k d i = when (ltb (d + i) (mode_at m k).period) (value m (a - (t + i)) (b - (t + i)) (at k (d + i)))

module _ (m : Module) (ok : ModuleRule m) (a b t k d : ℕ) where
  -- at the end of the stay and at the end of the interval that is nothing
  pub stay_over : (i : ℕ) → i ≡ min ((mode_at m k).period - d) (b - t) → d < (mode_at m k).period → stay_value m a b t k d i ≡ 0
  stay_over i e l = pick (dec_lt (d + i) (mode_at m k).period)
    where
      pick : Dec (d + i < (mode_at m k).period) → stay_value m a b t k d i ≡ 0
      pick (yes h) = rw (lt-ltb _ _ h) (value_over m (at k (d + i)) (a - (t + i)) b (t + i) (omega arith))
      pick (no h) = let over : (mode_at m k).period ≤ d + i = omega arith in rw (le-ltb _ _ over)

  pub stay_fits : (i : ℕ) → b ≤ 2000 → stay_value m a b t k d i < 65536
  stay_fits i l = pick (dec_lt (d + i) (mode_at m k).period)
    where
      pick : Dec (d + i < (mode_at m k).period) → stay_value m a b t k d i < 65536
      pick (yes h) = rw (lt-ltb _ _ h) (value_fits m ok (a - (t + i)) (b - (t + i)) (at k (d + i)) h (omega arith))
      pick (no h) = let over : (mode_at m k).period ≤ d + i = omega arith in rw (le-ltb _ _ over) (omega arith)

  -- from one tick of the walk to the one before
  stay_turn : (i : ℕ) → t + i < b → k < modes_in m → d + i < (mode_at m k).period
      → gain m (at k (d + i)) 0 (counted a b (t + i)) + max (stay_value m a b t k d (i + 1)) (max_below (λ j. when (opens m (at k (d + i)) j) (value m (a - (t + i + 1)) (b - (t + i + 1)) (at j 0))) (modes_in m))
      ≡ stay_value m a b t k d i
  stay_turn i l h in-mode =
      let e : t + (i + 1) ≡ suc (t + i) = omega arith in
      let e' : t + i + 1 ≡ suc (t + i) = omega arith in
      let n : d + (i + 1) ≡ d + i + 1 = omega arith in
      rw (lt-ltb _ _ in-mode, e, e', n) (sym (value_walk m ok (at k (d + i)) (record { mode = h; time = in-mode }) a b (t + i) l))

  pub stay_back : (i j l v r : ℕ) → i ≡ j + 1 → l ≡ counted a b (t + j) → v ≡ stay_value m a b t k d i
      → r ≡ gain m (at k (d + j)) 0 l + max v (max_below (λ n. when (opens m (at k (d + j)) n) (value m (a - (t + j + 1)) (b - (t + j + 1)) (at n 0))) (modes_in m))
      → t + j < b → k < modes_in m → d + j < (mode_at m k).period → r ≡ stay_value m a b t k d j
  stay_back i j l v r ei el ev er inside h in-mode = er ∙ rw (el, ev, ei) (stay_turn j inside h in-mode)
