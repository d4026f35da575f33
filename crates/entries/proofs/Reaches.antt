-- A run of a module that keeps its rules has the state (k, d) at a tick exactly where mode k can be begun d ticks before and d is inside its
-- period. Assumes nothing.
use mathlib.Core.Path.{◌≡◌, refl}
use Prim.Native.Nat.{ℕ, zero, suc, ◌+◌, ◌-◌, ◌*◌, ◌/◌, ◌≤◌, ◌<◌}
use native.Mathlib.Nat.{zero-mul, one-le-mul, mul-mod_left, div-add-mod'}
use native.Mathlib.Omega.{arith}
use lib.ListN.{length}
use Rattle.model.specs.Sheet.{Module}
use Rattle.model.specs.WellFormed.{ModuleRule}
use Rattle.model.specs.Run.{State, at, first, mode_at, Inside, Next, Reach}
use Rattle.model.proofs.Runs.{switch_rule, period_positive}
use Rattle.model.proofs.Reaching.{reach_keeps, from_same, stay, leave}
use Rattle.entries.specs.Entry.{Entry, begins}

pub positive_factor : (i n : ℕ) → 1 ≤ i * n → 1 ≤ i
positive_factor zero n h = absurd (omega (arith, zero-mul n))
positive_factor (suc i) n h = omega arith

module _ (m : Module) (ok : ModuleRule m) where
  pub entry_listed : (k t : ℕ) → Entry m k t → k < length m.modes
  entry_listed k t (begins p q) = rw p ok.least
  entry_listed k t (Entry.again e x q) = entry_listed k e x
  entry_listed k t (Entry.switched j e i w x l p one fits q) = rw p at (switch_rule m ok j w l).there

  -- From an entry to the states of its stay.

  -- a run begins the mode where it has an entry
  begun : (k e : ℕ) → Entry m k e → Reach m e (at k 0)
  begun k t (begins p q) = rw (p, q) (from_same m ok first (period_positive m ok 0))
  begun k t (Entry.again e x q) =
      let l = period_positive m ok k in
      rw q (leave m ok k e (mode_at m k).period (at k 0) (begun k e x) l (omega arith) (Next.again (omega arith) refl))
  begun k t (Entry.switched j e i w x l p one fits q) =
      let o = one-le-mul one (switch_rule m ok j w l).positive in
      let n : i * w.period - 1 + 1 ≡ i * w.period = omega arith in
      rw q (leave m ok j e (i * w.period) (at k 0) (begun j e x) o fits (Next.switched w l (rw n (mul-mod_left i w.period)) (rw p)))

  -- The two theorems.

  pub entry_reach : (k e d : ℕ) → Entry m k e → d < (mode_at m k).period → Reach m (e + d) (at k d)
  entry_reach k e d x = stay m ok k e d (begun k e x)

  pub reach_entry : (k a d : ℕ) → Reach m a (at k d) → (d ≤ a) × (d < (mode_at m k).period) × Entry m k (a - d)
  reach_entry k a d = reach_keeps m Since (omega arith, period_positive m ok 0, begins refl (omega arith)) step a (at k d)
    where
      Since : ℕ → State → Type 0
      Since a s = (s.time ≤ a) × Inside m s × Entry m s.mode (a - s.time)

      step : (a : ℕ) (s t : State) → Since a s → Next m s t → Since (suc a) t
      step a s t h (Next.on l e) = let q : suc a - (s.time + 1) ≡ a - s.time = omega arith in rw e (omega arith, l, rw q h.2)
      step a s t h (Next.again l e) =
          let q : suc a - 0 ≡ a - s.time + (mode_at m s.mode).period = omega arith in
          rw e (omega arith, period_positive m ok s.mode, Entry.again (a - s.time) h.2 q)
      step a s t h (Next.switched w l r e) =
          let i = (s.time + 1) / w.period in
          let whole : i * w.period ≡ s.time + 1 = omega (arith, div-add-mod' (s.time + 1) w.period) in
          let q : suc a - 0 ≡ a - s.time + i * w.period = omega arith in
          rw e (omega arith, period_positive m ok w.target, Entry.switched s.mode (a - s.time) i w h.2 l refl (positive_factor i w.period (omega arith)) (omega arith) q)
