-- No interval asks for more than the quick test counts for its length; so a quick clear is an exact clear, and the length of an exact over is
-- one that the quick sum exceeds. Assumes nothing.
use mathlib.Core.List.{List, [], ◌∷◌}
use Prim.Native.Nat.{ℕ, ◌-◌, ◌≤◌, ◌<◌}
use native.Mathlib.Omega.{arith}
use Rattle.model.specs.Lists.{sum_of, All}
use Rattle.model.specs.Sheet.{Module, Sheet}
use Rattle.model.specs.WellFormed.{ModuleRule, WellFormed}
use Rattle.model.specs.Run.{State, first, Inside, Reached, mode_0, Next}
use Rattle.model.specs.Demand.{StateDemand, value, module_demand}
use Rattle.model.specs.Verdict.{Quick, Exact, QuickIs, ExactIs, quick_sum, exact_sum}
use Rattle.model.proofs.Demands.{state_demand, module_demand_lem}
use Rattle.model.proofs.Verdicts.{quick_sum_lem, exact_sum_only}
use Rattle.model.proofs.Runs.{period_positive, next_inside}
use Rattle.model.proofs.Reached.{next_reached}
use Rattle.model.proofs.Reaching.{reach_keeps, reach_listed}
use Rattle.entries.proofs.Figures.{figure_largest}

-- One module.

module _ (m : Module) (ok : ModuleRule m) where
  -- The inner law: P may be anything that holds of the first state and is kept from tick to tick, and v what no state demand over the states of P exceeds.
  pub kept_bounds : (P : State → Type 0) → P first → ((s t : State) → P s → Next m s t → P t)
      → (a b v : ℕ) → a ≤ b → ((w : ℕ) → (s : State) × P s × StateDemand m s (b - a) w → w ≤ v) → value m a b first ≤ v
  kept_bounds P start keeps a b v l top =
      let r = (figure_largest m ok a b l).0 in
      let s = r.0 in
      top (value m a b first) (s, reach_keeps m (λ n. P) start (λ n. keeps) a s r.1, rw r.2 (state_demand m ok s (reach_listed m ok a s r.1).time (b - a)))

  -- a state that the module demand ranges over
  abbrev Ranged : State → Type 0
  Ranged s = Inside m s × Reached m s.mode

  pub quick_bounds : (a b : ℕ) → a ≤ b → value m a b first ≤ module_demand m (b - a)
  quick_bounds a b l =
      kept_bounds Ranged (period_positive m ok 0, mode_0) (λ s t h n. (next_inside m ok s t n, next_reached m s t h.1 n)) a b (module_demand m (b - a)) l
      (λ w r. (module_demand_lem m ok (b - a)).1 w (r.0, r.1.0, r.1.1, r.2))

-- A sheet.

sum_of_le : {A : Type 0} (P : A → Type 0) (f g : A → ℕ) → ((x : A) → P x → f x ≤ g x) → (xs : List A) → All P xs → sum_of f xs ≤ sum_of g xs
sum_of_le P f g le [] h = omega arith
sum_of_le P f g le (x ∷ xs) h = omega (arith, le x h.0, sum_of_le P f g le xs h.1)

module _ (s : Sheet) (ok : WellFormed s) where
  pub exact_sum_bounds : (a b : ℕ) → a ≤ b → exact_sum s a b ≤ quick_sum s (b - a)
  unfolding exact_sum quick_sum
  exact_sum_bounds a b l = sum_of_le ModuleRule (λ m. value m a b first) (λ m. module_demand m (b - a)) (λ m r. quick_bounds m r a b l) s.modules ok.modules

  pub quick_clear : QuickIs s Quick.clear → ExactIs s Exact.clear
  quick_clear q a b v l h r =
      omega (arith, exact_sum_only s ok a b v r, exact_sum_bounds a b (omega arith), q (b - a) (quick_sum s (b - a)) (omega arith) (omega arith) (quick_sum_lem s ok (b - a)))

  pub exact_over_quick : (a b v : ℕ) → ExactIs s (Exact.over a b v) → b - a < quick_sum s (b - a)
  exact_over_quick a b v x = omega (arith, exact_sum_only s ok a b v x.2, exact_sum_bounds a b (omega arith))
