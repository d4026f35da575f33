-- Instances, work, orders of work, earliest deadline first, on time (document 01, 'Runs', its last paragraph). Assumes nothing.
use Rattle.std.specs.Prelude.{◌≡◌, Bool, true, ◌&&◌, ℕ, zero, suc, ◌+◌, ◌≤◌, ◌<◌, eqb}
use Rattle.model.specs.Lists.{when, Nth}
use Rattle.model.specs.Sheet.{Task, Module, Sheet}
use Rattle.model.specs.Run.{first, mode_of, Run, IsRun, releases}

-- one run for each module of the sheet
abbrev pub Runs : Type 0
Runs = ℕ → Run

abbrev pub AreRuns : Sheet → Runs → Type 0
AreRuns s ρs = (k : ℕ) (m : Module) → Nth s.modules k m → IsRun m first (ρs k)

-- module and task are numbers: the task's in its mode
pub record Instance : Type 0 where
  pub module_number : ℕ
  pub task_number : ℕ
  pub release : ℕ
  pub due : ℕ
  pub cost : ℕ

-- x is an instance of these runs: its task, of the mode that is current at its release, releases it there; it is due LET ticks later.
pub record IsInstance (s : Sheet) (ρs : Runs) (x : Instance) : Type 0 where
  pub owner : Module
  pub task : Task
  pub is_owner : Nth s.modules x.module_number owner
  pub is_task : Nth (mode_of owner (ρs x.module_number x.release)).tasks x.task_number task
  pub released : releases (ρs x.module_number x.release) task ≡ true
  pub is_due : x.due ≡ x.release + task.LET
  pub is_cost : x.cost ≡ task.cost

-- how many ticks of work each instance has
abbrev pub Work : Type 0
Work = Instance → ℕ

abbrev pub AreWorks : Sheet → Runs → Work → Type 0
AreWorks s ρs w = (x : Instance) → IsInstance s ρs x → w x ≤ x.cost

abbrev pub full_cost : Work
full_cost x = x.cost

-- what a tick is given to
pub data Slot : Type 0 where
  unused : Slot
  given : Instance → Slot

abbrev pub same : Instance → Instance → Bool
same x y = eqb x.module_number y.module_number && (eqb x.task_number y.task_number && eqb x.release y.release)

abbrev pub hit : Slot → Instance → ℕ
hit unused x = 0
hit (given y) x = when (same y x) 1

-- how many of the ticks before t are given to x
unfoldable pub done : (ℕ → Slot) → Instance → ℕ → ℕ
done σ x zero = 0
done σ x (suc t) = done σ x t + hit (σ t) x

-- x is released at or before t and has work left
pub record Pending (s : Sheet) (ρs : Runs) (w : Work) (σ : ℕ → Slot) (t : ℕ) (x : Instance) : Type 0 where
  pub is_instance : IsInstance s ρs x
  pub released : x.release ≤ t
  pub left : done σ x t < w x

-- An order of work gives each tick to at most one instance, released at or before that tick and with work left.
abbrev pub Order : Sheet → Runs → Work → (ℕ → Slot) → Type 0
Order s ρs w σ = (t : ℕ) (x : Instance) → σ t ≡ given x → Pending s ρs w σ t x

-- It is earliest deadline first if a tick is idle only where no released instance has work left, and goes otherwise to one with the earliest due tick of those.
pub record EarliestDeadlineFirst (s : Sheet) (ρs : Runs) (w : Work) (σ : ℕ → Slot) : Type 0 where
  pub order : Order s ρs w σ
  pub idle : (t : ℕ) (x : Instance) → σ t ≡ unused → Pending s ρs w σ t x → ⊥
  pub earliest : (t : ℕ) (x y : Instance) → σ t ≡ given x → Pending s ρs w σ t y → x.due ≤ y.due

-- An instance ends on time if all its work is done in ticks before its due tick.
abbrev pub OnTime : Work → (ℕ → Slot) → Instance → Type 0
OnTime w σ x = w x ≤ done σ x x.due
