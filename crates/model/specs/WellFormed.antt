-- Well-formed sheet values (document 01, 'The sheet': the limits, the task rules, the switch rules; document 02, k). Assumes nothing.
use Rattle.std.specs.Prelude.{◌≡◌, map, ℕ, ◌+◌, ◌%◌, ◌≤◌, ◌<◌, length}
use Rattle.model.specs.Lists.{All, AllFrom, Distinct}
use Rattle.model.specs.Sheet.{Task, Kind, SW, SX, Switch, Mode, Module, Sheet, counts}
use Rattle.model.specs.Limits.{max_horizon, max_modules, max_modes, max_mode_period, max_mode_tasks, max_tasks, max_switches}

-- a task of a mode of this period
pub record TaskRule (period : ℕ) (k : Task) : Type 0 where
  pub works : 1 ≤ k.cost
  pub fits : k.cost ≤ k.LET
  pub within : k.offset + k.LET ≤ k.period
  pub divides : period % k.period ≡ 0

-- In a mode of this period the tick x of the mode period splits an instance of the task: it falls strictly between its release and its due tick.
pub record Splits (period : ℕ) (k : Task) (x : ℕ) : Type 0 where
  pub release : ℕ
  pub in_period : release < period
  pub released : release % k.period ≡ k.offset
  pub after : release < x
  pub before : x < release + k.LET

-- x is a positive multiple of p up to the mode period
pub record Multiple (period p x : ℕ) : Type 0 where
  pub positive : 1 ≤ x
  pub most : x ≤ period
  pub whole : x % p ≡ 0

-- What the kind of a switch asks of the switch period p for a task of a mode of this period: of SW, that it is a multiple of the task period;
-- of SX, that no positive multiple of it up to the mode period splits an instance.
abbrev pub KindRule : Kind → ℕ → ℕ → Task → Type 0
KindRule SW period p k = p % k.period ≡ 0
KindRule SX period p k = (x : ℕ) → Multiple period p x → Splits period k x → ⊥

-- a switch of the mode o, which has the number self in a module of so many modes
pub record SwitchRule (modes self : ℕ) (o : Mode) (w : Switch) : Type 0 where
  pub there : w.target < modes
  pub other : w.target ≡ self → ⊥
  pub positive : 1 ≤ w.period
  pub divides : o.period % w.period ≡ 0
  pub tasks : All (KindRule w.kind o.period w.period) o.tasks

pub record ModeRule (modes self : ℕ) (o : Mode) : Type 0 where
  pub least : 1 ≤ o.period
  pub most : o.period ≤ max_mode_period
  pub count : length o.tasks ≤ max_mode_tasks
  pub tasks : All (TaskRule o.period) o.tasks
  pub switches : All (SwitchRule modes self o) o.switches
  pub once : Distinct (map (λ (w : Switch). w.target) o.switches)

pub record ModuleRule (m : Module) : Type 0 where
  pub least : 1 ≤ length m.modes
  pub most : length m.modes ≤ max_modes
  pub modes : AllFrom (ModeRule (length m.modes)) 0 m.modes

pub record WellFormed (s : Sheet) : Type 0 where
  pub horizon_least : 1 ≤ s.horizon
  pub horizon_most : s.horizon ≤ max_horizon
  pub modules_least : 1 ≤ length s.modules
  pub modules_most : length s.modules ≤ max_modules
  pub modules : All ModuleRule s.modules
  pub tasks_most : (counts s).tasks ≤ max_tasks
  pub switches_most : (counts s).switches ≤ max_switches
