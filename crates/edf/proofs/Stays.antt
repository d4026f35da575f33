-- From its release until it is due an instance's mode stays current: no switch of either kind and no restart shortens it (slip 5). Assumes nothing.
use mathlib.Core.Path.{◌≡◌, ◌∙◌, ap}
use mathlib.Core.Bool.{true}
use mathlib.Core.List.{Memᴰ}
use Prim.Native.Nat.{ℕ, zero, suc, ◌+◌, ◌-◌, ◌%◌, ◌<◌}
use native.Mathlib.Nat.{add-zero, add-suc}
use native.Mathlib.Omega.{arith}
use borrow.Author.Tests.{eqb-true}
use Rattle.model.specs.Sheet.{Task, Module, Sheet}
use Rattle.model.specs.WellFormed.{ModuleRule, WellFormed}
use Rattle.model.specs.Run.{State, at, first, mode_of, Next, on, again, switched, Run, IsRun, releases}
use Rattle.model.proofs.Runs.{task_rule}
use Rattle.model.proofs.Splitting.{Unsplit, rest_after, end_unsplit, switch_unsplit}
use Rattle.edf.specs.Work.{Runs, AreRuns, Instance, IsInstance}
use Rattle.edf.specs.Stay.{CurrentUntil}
use Rattle.edf.proofs.Done.{owner_rule, task_in}

module _ (m : Module) (ok : ModuleRule m) (s : State) (ρ : Run) (is : IsRun m s ρ)
    (t : ℕ) (k : Task) (in-mode : Memᴰ k (mode_of m (ρ t)).tasks) (released : releases (ρ t) k ≡ true) where
  -- before the instance is due its mode's time splits it, so that no restart and no switch is open
  closed : (n : ℕ) → suc n < k.LET → Unsplit k ((ρ t).time + suc n) → ⊥
  closed n l u =
      let rest : ((ρ t).time + suc n) % k.period ≡ k.offset + suc n = rest_after k (task_rule m ok (ρ t).mode k in-mode) (ρ t).time (suc n) (eqb-true _ _ released) l in
      omega (arith, rest, u (omega (arith, rest)))

  -- so that one tick leads on in the mode
  goes_on : (n : ℕ) (c : State) → suc n < k.LET → Next m (at (ρ t).mode ((ρ t).time + n)) c → c ≡ at (ρ t).mode ((ρ t).time + suc n)
  goes_on n c l (on h e) = e ∙ ap (at (ρ t).mode) (omega arith)
  goes_on n c l (again h e) =
      let whole : (ρ t).time + suc n ≡ (mode_of m (ρ t)).period = omega arith in
      absurd (closed n l (rw whole (end_unsplit m ok (ρ t).mode k in-mode)))
  goes_on n c l (switched w i h e) =
      let whole : (ρ t).time + n + 1 ≡ (ρ t).time + suc n = omega arith in
      absurd (closed n l (switch_unsplit m ok (ρ t).mode k in-mode w i ((ρ t).time + suc n) (rw whole at h)))

  stays_for : (n : ℕ) → n < k.LET → ρ (t + n) ≡ at (ρ t).mode ((ρ t).time + n)
  stays_for zero l = rw (add-zero t, add-zero (ρ t).time)
  stays_for (suc n) l = rw (add-suc t n) (goes_on n (ρ (suc (t + n))) l (rw (stays_for n (omega arith)) at (is.steps (t + n))))

  -- of any run, from any state: until what a task releases is due
  pub task_stays : CurrentUntil ρ t (t + k.LET)
  task_stays u from before =
      let same : t + (u - t) ≡ u = omega arith in
      rw same at (stays_for (u - t) (omega arith))

-- of the runs from tick 0 of a well_formed sheet
pub instance_stays : (s : Sheet) → WellFormed s → (ρs : Runs) → AreRuns s ρs → (x : Instance) → IsInstance s ρs x → CurrentUntil (ρs x.module_number) x.release x.due
instance_stays s ok ρs runs x is =
    rw is.is_due
    (task_stays is.owner (owner_rule s ok ρs x is) first (ρs x.module_number) (runs x.module_number is.owner is.is_owner)
    x.release is.task (task_in s ok ρs x is) is.released)
