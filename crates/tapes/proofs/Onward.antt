-- The mode of the next state on a tape, from the lowest mode that opens and has the top. Assumes nothing.
use mathlib.Core.Path.{◌≡◌, sym, ◌∙◌, ap}
use Prim.Native.Nat.{ℕ, ◌+◌, ◌≤◌, ◌<◌}
use native.Mathlib.Decide.{dec_lt}
use native.Mathlib.Omega.{arith}
use Rattle.model.specs.Lists.{max_of}
use Rattle.model.specs.Sheet.{Module, modes_in}
use Rattle.model.specs.WellFormed.{ModuleRule}
use Rattle.model.specs.Run.{State as Moment, mode_of, Listed}
use Rattle.model.specs.Demand.{nexts}
use Rattle.model.specs.Tape.{chosen}
use Rattle.following.specs.Follow.{stay, head}
use Rattle.following.proofs.Choice.{head_apart, goes_lower, goes_ended, goes_better, stays_lowest, stays_forced}

-- In the listed state x, for top the largest value of f after it, h is the lowest mode that opens and has the top, or the number of modes.
pub record Choosing (m : Module) (x : Moment) (f : Moment → ℕ) (top h : ℕ) : Type 0 where
  pub listed : Listed m x
  pub is_top : top ≡ max_of f (nexts m x)
  pub is_head : h ≡ head m f x top

module _ (m : Module) (ok : ModuleRule m) (x : Moment) (f : Moment → ℕ) (top h : ℕ) (c : Choosing m x f top h) where
  mode_of_lem : (u : Moment) → chosen f x (nexts m x) ≡ u → u.mode ≡ (chosen f x (nexts m x)).mode
  mode_of_lem u e = ap (λ (v : Moment). v.mode) (sym e)

  pub to_ended : (mode_of m x).period ≤ x.time + 1 → h ≡ (chosen f x (nexts m x)).mode
  to_ended l = c.is_head ∙ mode_of_lem _ (goes_ended m ok x c.listed f top c.is_top l)

  -- a lower mode; or its own, which then ends
  pub to_low : h ≤ x.mode → h ≡ (chosen f x (nexts m x)).mode
  to_low l = pick (dec_lt h x.mode) (dec_lt (x.time + 1) (mode_of m x).period)
    where
      pick : Dec (h < x.mode) → Dec (x.time + 1 < (mode_of m x).period) → h ≡ (chosen f x (nexts m x)).mode
      pick (yes a) q = c.is_head ∙ mode_of_lem _ (goes_lower m ok x c.listed f top c.is_top (omega (arith, c.is_head)))
      pick (no a) (yes q) = absurd (head_apart m ok x c.listed f top c.is_top q (omega (arith, c.is_head)))
      pick (no a) (no q) = to_ended (omega arith)

  pub to_better : (f (stay x) ≡ top → ⊥) → h ≡ (chosen f x (nexts m x)).mode
  to_better l = c.is_head ∙ mode_of_lem _ (goes_better m ok x c.listed f top c.is_top l)

  pub keeps_forced : h ≡ modes_in m → x.mode ≡ (chosen f x (nexts m x)).mode
  keeps_forced e = mode_of_lem _ (stays_forced m ok x c.listed f top c.is_top (sym c.is_head ∙ e))

  pub keeps_lowest : x.mode < h → x.time + 1 < (mode_of m x).period → f (stay x) ≡ top → x.mode ≡ (chosen f x (nexts m x)).mode
  keeps_lowest l k e = mode_of_lem _ (stays_lowest m ok x c.listed f top c.is_top (omega (arith, c.is_head)) k e)
