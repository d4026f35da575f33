-- Instances that ask for more than an interval has: at full cost no order of work ends each of them on time. Assumes nothing.
use Prim.Native.Nat.{ℕ, suc, ◌+◌, ◌-◌, ◌≤◌, ◌<◌}
use native.Mathlib.Decide.{le_ind}
use native.Mathlib.Omega.{arith}
use Rattle.model.specs.Lists.{sum_of}
use Rattle.model.specs.Sheet.{Sheet}
use Rattle.model.proofs.Lists.{sum_of_zero, sum_of_add}
use Rattle.edf.specs.Work.{Runs, Instance, IsInstance, full_cost, Slot, hit, done, Order, OnTime}
use Rattle.edf.proofs.Joined.{sum_of_le}
use Rattle.edf.proofs.Listing.{inside, in_inside}
use Rattle.edf.proofs.Once.{inside_once}
use Rattle.edf.proofs.Done.{done_grows, done_early}

module _ (s : Sheet) (ρs : Runs) (a b : ℕ) (σ : ℕ → Slot) (order : Order s ρs full_cost σ) where
  -- the ticks before t that are given to instances inside a to b
  spent : ℕ → ℕ
  spent t = sum_of (λ x. done σ x t) (inside s ρs a b)

  -- one tick adds 1 at most
  spent_step : (t : ℕ) → spent (suc t) ≤ spent t + 1
  unfolding spent done
  spent_step t = omega (arith, sum_of_add (λ x. done σ x t) (hit (σ t)) (inside s ρs a b), inside_once s ρs a b (σ t))

  -- and before a there are none
  spent_early : spent a ≤ 0
  unfolding spent
  spent_early =
      let none = sum_of_le (λ x. done σ x a) (λ x. 0) (inside s ρs a b) (λ x i. omega (arith, done_early s ρs full_cost σ order x a (in_inside s ρs a b x i).1)) in
      omega (arith, none, sum_of_zero (inside s ρs a b))

  spent_most : a ≤ b → spent b + a ≤ b
  spent_most l = le_ind (λ m. spent m + a ≤ m) (omega (arith, spent_early)) (λ m k ih. omega (arith, spent_step m)) b l

  pub too_much : a < b → b - a < sum_of full_cost (inside s ρs a b) → ((x : Instance) → IsInstance s ρs x → x.due ≤ b → OnTime full_cost σ x) → ⊥
  unfolding spent
  too_much l more on-time = omega (arith, spent_most (omega arith), sum_of_le full_cost (λ x. done σ x b) (inside s ρs a b) (λ x i. ended x (in_inside s ρs a b x i)))
    where
      ended : (x : Instance) → IsInstance s ρs x × (a ≤ x.release) × (x.due ≤ b) → x.cost ≤ done σ x b
      ended x i = omega (arith, on-time x i.0 i.2, done_grows σ x x.due b i.2)
