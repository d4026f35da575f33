-- Runs, and the demand of a run (document 01, 'Runs'); the modes that are reached (document 02, b). Assumes nothing.
use Rattle.std.specs.Prelude.{◌≡◌, Bool, ◌&&◌, ℕ, suc, ◌+◌, ◌-◌, ◌%◌, ◌<◌, leb, eqb, get_or, length}
use mathlib.Core.List.{[], Memᴰ}
use Rattle.model.specs.Lists.{when, sum_of, ticks}
use Rattle.model.specs.Sheet.{Task, Switch, Mode, Module}

-- A module's state is a mode and a mode time.
pub record State : Type 0 where
  pub mode : ℕ
  pub time : ℕ

abbrev pub at : ℕ → ℕ → State
at k d = record { mode = k; time = d }

-- at tick 0
abbrev pub first : State
first = at 0 0

-- what a number names that no mode of the module has
abbrev pub idle : Mode
idle = record { period = 1; tasks = []; switches = [] }

abbrev pub mode_at : Module → ℕ → Mode
mode_at m k = get_or m.modes k idle

-- the mode that is current in the state
abbrev pub mode_of : Module → State → Mode
mode_of m s = mode_at m s.mode

-- the mode time is from 0 to the period less 1
abbrev pub Inside : Module → State → Type 0
Inside m s = s.time < (mode_of m s).period

-- a state of one of the module's modes
pub record Listed (m : Module) (s : State) : Type 0 where
  pub mode : s.mode < length m.modes
  pub time : Inside m s

-- A mode is reached: mode 0 is, and so is the target of a switch that a reached mode lists.
pub data Reached (m : Module) : ℕ → Type 0 where
  mode_0 : Reached m 0
  target_of : (k : ℕ) (w : Switch) → Reached m k → Memᴰ w (mode_at m k).switches → Reached m w.target

-- The state after one tick is one of these, and nothing else.
pub data Next (m : Module) (s t : State) : Type 0 where
  on : s.time + 1 < (mode_of m s).period → t ≡ at s.mode (s.time + 1) → Next m s t
  again : s.time + 1 ≡ (mode_of m s).period → t ≡ at s.mode 0 → Next m s t
  switched : (w : Switch) → Memᴰ w (mode_of m s).switches → (s.time + 1) % w.period ≡ 0 → t ≡ at w.target 0 → Next m s t

-- A run is a state for every tick ..
abbrev pub Run : Type 0
Run = ℕ → State

-- the run from its second tick on
abbrev pub later : Run → Run
later ρ t = ρ (suc t)

-- .. one by one by this rule; here one that begins in the state s.
pub record IsRun (m : Module) (s : State) (ρ : Run) : Type 0 where
  pub starts : ρ 0 ≡ s
  pub steps : (t : ℕ) → Next m (ρ t) (ρ (suc t))

-- a run that begins in the state s has the state t at tick a
abbrev pub ReachFrom : Module → State → ℕ → State → Type 0
ReachFrom m s a t = (ρ : Run) × IsRun m s ρ × (ρ a ≡ t)

-- a run of the module from tick 0 has the state s at tick a
abbrev pub Reach : Module → ℕ → State → Type 0
Reach m a s = ReachFrom m first a s

-- The task releases an instance where its mode is current and the mode time, divided by its period, leaves its offset.
abbrev pub releases : State → Task → Bool
releases s k = eqb (s.time % k.period) k.offset

-- the cost of the instance that the task releases at tick t in the state s, where that is due, LET ticks later, at or before b
unfoldable pub gain_of : State → ℕ → ℕ → Task → ℕ
gain_of s t b k = when (releases s k && leb (t + k.LET) b) k.cost

unfoldable pub gain : Module → State → ℕ → ℕ → ℕ
gain m s t b = sum_of (gain_of s t b) (mode_of m s).tasks

-- The demand of a run in an interval from a to b is the sum of the costs of the instances released at or after a and due at or before b.
unfoldable pub demand : Module → Run → ℕ → ℕ → ℕ
demand m ρ a b = ticks (λ t. gain m (ρ t) t b) a (b - a)
