-- A mode is reached exactly where some run from tick 0 is in it at some tick; such runs then come to every state of it. Assumes nothing.
use mathlib.Core.Path.{◌≡◌, refl}
use Prim.Native.Nat.{ℕ, ◌+◌, ◌-◌, ◌<◌}
use native.Mathlib.Nat.{mod_self, le_of_dvd, dvd_of_mod-eq-zero}
use native.Mathlib.Omega.{arith}
use lib.ListN.{length}
use Rattle.model.specs.Sheet.{Module}
use Rattle.model.specs.WellFormed.{ModuleRule}
use Rattle.model.specs.Run.{State, at, first, Inside, Reached, mode_0, target_of, Next, Reach}
use Rattle.model.proofs.Runs.{period_positive, switch_rule}
use Rattle.model.proofs.Reaching.{reach_keeps, reach_listed, from_same, stay, leave}

module _ (m : Module) (ok : ModuleRule m) where
  -- A run from tick 0 begins every reached mode ..
  begun : (k : ℕ) → Reached m k → (a : ℕ) × Reach m a (at k 0)
  begun k mode_0 = (0, from_same m ok first (period_positive m ok 0))
  begun k (target_of j w r i) =
      let b = begun j r in
      let rule = switch_rule m ok j w i in
      let last : w.period - 1 + 1 ≡ w.period = omega (arith, rule.positive) in
      (b.0 + w.period, leave m ok j b.0 w.period (at w.target 0) b.1 rule.positive (le_of_dvd (period_positive m ok j) (dvd_of_mod-eq-zero _ rule.divides)) (Next.switched w i (rw last (mod_self _)) refl))

  -- .. and comes to every state of it
  pub reached_reach : (s : State) → Inside m s → Reached m s.mode → (a : ℕ) × Reach m a s
  reached_reach s h r = let b = begun s.mode r in (b.0 + s.time, stay m ok s.mode b.0 s.time b.1 h)

-- A tick leads from a reached mode to a reached mode only.
pub next_reached : (m : Module) (s t : State) → Reached m s.mode → Next m s t → Reached m t.mode
next_reached m s t h (Next.on a e) = rw e h
next_reached m s t h (Next.again a e) = rw e h
next_reached m s t h (Next.switched w i a e) = rw e (target_of s.mode w h i)

-- So every mode that a run from tick 0 is in is reached.
pub reach_reached : (m : Module) (a : ℕ) (s : State) → Reach m a s → Reached m s.mode
reach_reached m = reach_keeps m (λ a s. Reached m s.mode) mode_0 (λ a. next_reached m)

-- A mode is reached exactly where some run from tick 0 is in it at some tick.

abbrev InRun : Module → ℕ → Type 0
InRun m k = (a : ℕ) × (s : State) × Reach m a s × (s.mode ≡ k)

module _ (m : Module) (ok : ModuleRule m) where
  pub reached_in_run : (k : ℕ) → (Reached m k → InRun m k) × (InRun m k → Reached m k)
  reached_in_run k = (λ r. let b = begun m ok k r in (b.0, at k 0, b.1, refl), λ h. rw h.3 at (reach_reached m h.0 h.1 h.2))

  -- so it is a mode of the module
  pub reached_listed : (k : ℕ) → Reached m k → k < length m.modes
  reached_listed k r = let b = begun m ok k r in (reach_listed m ok b.0 (at k 0) b.1).mode
