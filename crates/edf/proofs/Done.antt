-- The ticks given to an instance: they only grow; a tick that is given to it counts; in an order of work there are none before its release; and an instance
-- of a well_formed sheet is released before it is due. Assumes nothing.
use mathlib.Core.Path.{◌≡◌, refl, ◌∙◌, ap}
use mathlib.Core.Bool.{Bool}
use mathlib.Core.List.{List, [], ◌∷◌, Memᴰ}
use Prim.Native.Nat.{ℕ, zero, suc, ◌+◌, ◌≤◌, ◌<◌}
use native.Mathlib.Nat.{le_refl}
use native.Mathlib.Decide.{le_ind}
use native.Mathlib.Omega.{arith}
use borrow.Author.Tests.{eq-eqb}
use Rattle.model.specs.Lists.{when, Nth}
use Rattle.model.specs.Sheet.{Sheet}
use Rattle.model.specs.WellFormed.{TaskRule, ModuleRule, WellFormed}
use Rattle.model.specs.Run.{mode_of}
use Rattle.model.proofs.Lists.{all_mem}
use Rattle.model.proofs.Runs.{task_rule}
use Rattle.edf.specs.Work.{Runs, Instance, IsInstance, Work, Slot, unused, given, hit, done, Order}
use Rattle.edf.proofs.Once.{other_release}

pub done_suc : (σ : ℕ → Slot) (x : Instance) (t : ℕ) → done σ x (suc t) ≡ done σ x t + hit (σ t) x
unfolding done
done_suc σ x t = refl

pub done_grows : (σ : ℕ → Slot) (x : Instance) (t u : ℕ) → t ≤ u → done σ x t ≤ done σ x u
done_grows σ x t u l = le_ind (λ m. done σ x t ≤ done σ x m) (le_refl (done σ x t)) (λ m k ih. omega (arith, done_suc σ x m)) u l

pub done_given : (σ : ℕ → Slot) (x : Instance) (t : ℕ) → σ t ≡ given x → done σ x (suc t) ≡ done σ x t + 1
done_given σ x t e = done_suc σ x t ∙ rw (e, eq-eqb x.module_number x.module_number refl, eq-eqb x.task_number x.task_number refl, eq-eqb x.release x.release refl)

pub done_early : (s : Sheet) (ρs : Runs) (w : Work) (σ : ℕ → Slot) → Order s ρs w σ → (x : Instance) (t : ℕ) → t ≤ x.release → done σ x t ≡ 0
unfolding done
done_early s ρs w σ order x zero l = refl
done_early s ρs w σ order x (suc t) l = omega (arith, done_early s ρs w σ order x t (omega arith), none (σ t) refl)
  where
    none : (p : Slot) → σ t ≡ p → hit p x ≡ 0
    none unused e = refl
    none (given y) e = ap (λ (b : Bool). when b 1) (other_release y x (λ q. absurd (omega (arith, (order t y e).released))))

nth_in : {A : Type 0} (xs : List A) (i : ℕ) (x : A) → Nth xs i x → Memᴰ x xs
nth_in [] i x n = absurd n
nth_in (y ∷ ys) zero x n = Memᴰ.head n
nth_in (y ∷ ys) (suc i) x n = Memᴰ.tail (nth_in ys i x n)

module _ (s : Sheet) (ok : WellFormed s) (ρs : Runs) (x : Instance) (is : IsInstance s ρs x) where
  pub owner_rule : ModuleRule is.owner
  owner_rule = all_mem ModuleRule is.owner s.modules ok.modules (nth_in s.modules x.module_number is.owner is.is_owner)

  pub task_in : Memᴰ is.task (mode_of is.owner (ρs x.module_number x.release)).tasks
  task_in = nth_in _ x.task_number is.task is.is_task

  pub released_before_due : x.release < x.due
  released_before_due = omega (arith, is.is_due, rule.works, rule.fits)
    where
      rule : TaskRule (mode_of is.owner (ρs x.module_number x.release)).period is.task
      rule = task_rule is.owner owner_rule (ρs x.module_number x.release).mode is.task task_in
