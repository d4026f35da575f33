-- One tick works on one of the listed instances at most: no two of them are the same. Assumes nothing.
use mathlib.Core.Path.{◌≡◌, ◌∙◌, ap}
use mathlib.Core.Bool.{Bool, true, false, ◌&&◌, and-false}
use mathlib.Core.List.{[]}
use Prim.Native.Nat.{ℕ, ◌-◌, ◌≤◌, zero-le}
use native.Mathlib.Nat.{le_refl}
use native.Mathlib.Omega.{arith}
use borrow.Author.Tests.{ne_eqb}
use Rattle.model.specs.Lists.{when, sum_of, ticks}
use Rattle.model.specs.Sheet.{Task, Module, Sheet}
use Rattle.model.specs.Run.{mode_of, releases}
use Rattle.model.specs.Demand.{cons_if}
use Rattle.model.proofs.Lists.{sum_of_zero}
use Rattle.edf.specs.Work.{Runs, Instance, Slot, unused, given, same, hit}
use Rattle.edf.proofs.Joined.{sum_over, sum_over_none, sum_over_one, ticks_none, ticks_one}
use Rattle.edf.proofs.Listing.{instance_of, of_task, of_module, listed, sum_of_module, sum_listed, due_by, inside}

-- instances of another module, of another task, of another release are not the same

other_module : (x y : Instance) → (x.module_number ≡ y.module_number → ⊥) → same x y ≡ false
other_module x y n = rw (ne_eqb x.module_number y.module_number n)

other_task : (x y : Instance) → (x.task_number ≡ y.task_number → ⊥) → same x y ≡ false
other_task x y n = rw (ne_eqb x.task_number y.task_number n, and-false)

pub other_release : (x y : Instance) → (x.release ≡ y.release → ⊥) → same x y ≡ false
other_release x y n = rw (ne_eqb x.release y.release n, and-false, and-false)

sum_cons_if_most : (f : Instance → ℕ) (b : Bool) (x : Instance) → sum_of f (cons_if b x []) ≤ f x
sum_cons_if_most f true x = omega arith
sum_cons_if_most f false x = zero-le

hit_one : (x y : Instance) → hit (given x) y ≤ 1
hit_one x y = pick (same x y)
  where
    pick : (b : Bool) → when b 1 ≤ 1
    pick true = le_refl 1
    pick false = zero-le

module _ (keep : Instance → Bool) (s : Sheet) (ρs : Runs) (a n : ℕ) (x : Instance) where
  -- what a tick that is given to x gives to the instance of a task, to those of a tick, and to those of a module
  to_task : ℕ → ℕ → ℕ → Task → ℕ
  to_task k t i task = sum_of (hit (given x)) (of_task keep (ρs k t) k t i task)

  to_tick : ℕ → Module → ℕ → ℕ
  to_tick k m t = sum_over (to_task k t) (mode_of m (ρs k t)).tasks

  to_module : ℕ → Module → ℕ
  to_module k m = sum_of (hit (given x)) (of_module keep ρs a n k m)

  task_one : (k t i : ℕ) (task : Task) → to_task k t i task ≤ 1
  unfolding to_task
  task_one k t i task = omega (arith, sum_cons_if_most (hit (given x)) (releases (ρs k t) task && keep (instance_of k t i task)) (instance_of k t i task), hit_one x (instance_of k t i task))

  task_none : (k t i : ℕ) (task : Task) → same x (instance_of k t i task) ≡ false → to_task k t i task ≡ 0
  unfolding to_task
  task_none k t i task e =
      let none : hit (given x) (instance_of k t i task) ≡ 0 = ap (λ (b : Bool). when b 1) e in
      omega (arith, sum_cons_if_most (hit (given x)) (releases (ρs k t) task && keep (instance_of k t i task)) (instance_of k t i task))

  tick_one : (k : ℕ) (m : Module) (t : ℕ) → to_tick k m t ≤ 1
  unfolding to_tick
  tick_one k m t = sum_over_one (to_task k t) x.task_number (task_one k t) (λ i task e. task_none k t i task (other_task x (instance_of k t i task) e)) (mode_of m (ρs k t)).tasks

  tick_none : (k : ℕ) (m : Module) (t : ℕ) → ((i : ℕ) (task : Task) → same x (instance_of k t i task) ≡ false) → to_tick k m t ≡ 0
  unfolding to_tick
  tick_none k m t e = sum_over_none (to_task k t) (λ i task. task_none k t i task (e i task)) (mode_of m (ρs k t)).tasks

  by_ticks : (k : ℕ) (m : Module) → to_module k m ≡ ticks (to_tick k m) a n
  unfolding to_task to_tick to_module
  by_ticks = sum_of_module keep s ρs a n (hit (given x))

  module_one : (k : ℕ) (m : Module) → to_module k m ≤ 1
  module_one k m = rw by_ticks (ticks_one (to_tick k m) x.release (tick_one k m) (λ t e. tick_none k m t (λ i task. other_release x (instance_of k t i task) e)) a n)

  module_none : (k : ℕ) (m : Module) → (x.module_number ≡ k → ⊥) → to_module k m ≡ 0
  module_none k m e = by_ticks k m ∙ ticks_none (to_tick k m) a n (λ t l. tick_none k m t (λ i task. other_module x (instance_of k t i task) e))

  given_once : sum_of (hit (given x)) (listed keep s ρs a n) ≤ 1
  unfolding to_module
  given_once = rw (sum_listed keep s ρs a n (hit (given x))) (sum_over_one to_module x.module_number module_one module_none s.modules)

pub inside_once : (s : Sheet) (ρs : Runs) (a b : ℕ) (p : Slot) → sum_of (hit p) (inside s ρs a b) ≤ 1
unfolding inside
inside_once s ρs a b unused = omega (arith, sum_of_zero (inside s ρs a b))
inside_once s ρs a b (given x) = given_once (due_by b) s ρs a (b - a) x
