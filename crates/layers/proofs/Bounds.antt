-- A module gains at most 16,384 in a tick, and it has at most 8,192 states. Assumes nothing.
use mathlib.Core.Path.{◌≡◌}
use mathlib.Core.Bool.{Bool, true, false, ◌&&◌}
use mathlib.Core.List.{List, [], ◌∷◌}
use Prim.Native.Nat.{ℕ, ◌+◌, ◌*◌, ◌%◌, ◌≤◌, ◌<◌}
use native.Mathlib.Nat.{mod-eq_of_lt}
use native.Mathlib.Decide.{dec_lt}
use native.Mathlib.Omega.{arith}
use lib.Dec.{leb}
use lib.ListN.{length}
use Rattle.model.specs.Lists.{when, sum_of, All}
use Rattle.model.specs.Sheet.{Task, Module}
use Rattle.model.specs.WellFormed.{TaskRule, ModeRule, ModuleRule}
use Rattle.model.specs.Run.{State, mode_at, mode_of, releases, gain_of, gain}
use Rattle.model.proofs.Runs.{mode_rule, rule_at}
use Rattle.layers.proofs.Sums.{sum_most}
use Rattle.layers.specs.Layer.{place, states_of}

when_le : (b : Bool) (n c : ℕ) → n ≤ c → when b n ≤ c
when_le true n c h = h
when_le false n c h = omega arith

-- a divisor is no larger
divisor_le : (p t : ℕ) → 1 ≤ p → p % t ≡ 0 → t ≤ p
divisor_le p t h e = pick (dec_lt p t)
  where
    pick : Dec (p < t) → t ≤ p
    pick (yes a) = absurd (omega (arith, mod-eq_of_lt a))
    pick (no a) = omega arith

gain_of_le : (s : State) (t b p : ℕ) → 1 ≤ p → p ≤ 1024 → (k : Task) → TaskRule p k → gain_of s t b k ≤ 1024
unfolding gain_of
gain_of_le s t b p low high k r = when_le (releases s k && leb (t + k.LET) b) k.cost 1024 (omega (arith, r.fits, r.within, divisor_le p k.period low r.divides))

gains_le : (s : State) (t b p : ℕ) → 1 ≤ p → p ≤ 1024 → (ks : List Task) → All (TaskRule p) ks → sum_of (gain_of s t b) ks ≤ 1024 * length ks
gains_le s t b p low high [] h = omega arith
gains_le s t b p low high (k ∷ ks) h = omega (arith, gain_of_le s t b p low high k h.0, gains_le s t b p low high ks h.1)

module _ (m : Module) (ok : ModuleRule m) where
  pub gain_le : (s : State) (t b : ℕ) → gain m s t b ≤ 16384
  unfolding gain
  gain_le s t b =
      let r : ModeRule (length m.modes) s.mode (mode_of m s) = rule_at m ok s.mode in
      omega (arith, gains_le s t b (mode_of m s).period r.least r.most (mode_of m s).tasks r.tasks)

  pub states_bound : states_of m ≤ 8192
  unfolding place
  states_bound = omega (arith, sum_most (λ k. (mode_at m k).period) 1024 (length m.modes) (λ k h. (mode_rule m ok k h).most), ok.most)
