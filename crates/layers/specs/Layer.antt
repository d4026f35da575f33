-- The layer of a module, and when numbers tell a module. Assumes nothing.
use Rattle.std.specs.Prelude.{◌≡◌, true, ℕ, ◌+◌, ◌%◌, ◌^◌, ◌≤◌, ◌<◌, ltb, length}
use mathlib.Core.List.{List, Memᴰ}
use Rattle.model.specs.Lists.{when, max_of}
use Rattle.model.specs.Sheet.{Switch, Module}
use Rattle.model.specs.WellFormed.{ModuleRule}
use Rattle.model.specs.Flat.{task_numbers}
use Rattle.model.specs.Run.{State, at, mode_at, gain}
use Rattle.model.specs.Demand.{nexts, value}
use Rattle.layers.specs.declared.Shape.{Shape}
use Rattle.layers.specs.Step.{sum_below, look, total, period, lists, every, tasks_of}

-- where mode time d of the mode k stands: behind the modes before it
unfoldable pub place : Module → ℕ → ℕ → ℕ
place m k d = sum_below (λ j. (mode_at m j).period) k + d

-- how many states the module has
abbrev pub states_of : Module → ℕ
states_of m = place m (length m.modes) 0

-- w, after n steps, holds f of each state: of mode time d of the mode k at the place n further on in the mode's part
pub record Holds (m : Module) (n : ℕ) (f : State → ℕ) (w : List ℕ) : Type 0 where
  pub room : states_of m ≤ length w
  pub holds : (k d : ℕ) → k < length m.modes → d < (mode_at m k).period → look w (place m k ((d + n) % (mode_at m k).period)) ≡ f (at k d)

-- w holds the largest demand in L ticks from each state
abbrev pub Layer : Module → ℕ → List ℕ → Type 0
Layer m L w = Holds m L (value m 0 L) w

-- the mode time after d in a mode of period p that is not left
unfoldable pub next : ℕ → ℕ → ℕ
next p d = when (ltb (d + 1) p) (d + 1)

-- one tick earlier, for f a tick later: what the state gains of instances due within l ticks, and the largest of the next states
abbrev pub earlier : Module → ℕ → (State → ℕ) → State → ℕ
earlier m l f s = gain m s 0 l + max_of f (nexts m s)

-- the numbers tell the mode k: its period, its tasks, and for each mode of the module whether it is a target of a switch, and of which period
pub record ModeTold (m : Module) (s : Shape) (numbers : List ℕ) (k : ℕ) : Type 0 where
  pub period : period s k ≡ (mode_at m k).period
  pub up : look s.starts k ≤ look s.starts (k + 1)
  pub within : look s.starts (k + 1) ≤ length numbers
  pub tasks : tasks_of s numbers k ≡ task_numbers (mode_at m k).tasks
  pub listed : (w : Switch) → Memᴰ w (mode_at m k).switches → (lists s k w.target ≡ true) × (every s k w.target ≡ w.period)
  pub only : (t : ℕ) → t < s.modes → lists s k t ≡ true → (w : Switch) × Memᴰ w (mode_at m k).switches × (w.target ≡ t) × (w.period ≡ every s k t)

-- the numbers tell the module
pub record Told (m : Module) (s : Shape) (numbers : List ℕ) : Type 0 where
  pub modes : s.modes ≡ length m.modes
  pub each : (k : ℕ) → k < s.modes → ModeTold m s numbers k

-- the numbers tell a module
pub record Tells (s : Shape) (numbers : List ℕ) : Type 0 where
  pub owner : Module
  pub rule : ModuleRule owner
  pub told : Told owner s numbers

-- P holds of each module that the numbers tell
abbrev pub Each : Shape → List ℕ → (Module → Type 0) → Type 0
Each s numbers P = (m : Module) → ModuleRule m → Told m s numbers → P m

-- w is the layer of length L of a module that the numbers tell
pub record IsLayer (s : Shape) (numbers : List ℕ) (L : ℕ) (w : List ℕ) : Type 0 where
  pub owner : Module
  pub rule : ModuleRule owner
  pub told : Told owner s numbers
  pub layer : Layer owner L w

-- of whichever module the numbers tell, w' is the layer one tick longer; what lies past its states is as it was
pub record Advanced (s : Shape) (numbers : List ℕ) (L : ℕ) (w w' : List ℕ) : Type 0 where
  pub len : length w' ≡ length w
  pub layer : (m : Module) → ModuleRule m → Told m s numbers → Layer m L w → Layer m (L + 1) w'
  pub above : (x : ℕ) → total s.periods s.modes ≤ x → look w' x ≡ look w x

-- the numbers tell a module, whose states w has room for, and no number there is so large that a step could pass 32 bits
pub record Steppable (s : Shape) (numbers w : List ℕ) : Type 0 where
  pub owner : Module
  pub rule : ModuleRule owner
  pub told : Told owner s numbers
  pub room : total s.periods s.modes ≤ length w
  pub low : (k x : ℕ) → k < s.modes → x < period s k → look w (total s.periods k + x) + 16384 < 2 ^ 32

-- of whichever module the numbers tell, and whichever numbers w holds of its states after n steps, w' holds those of one tick earlier
pub record SteppedBy (s : Shape) (numbers : List ℕ) (l n : ℕ) (w w' : List ℕ) : Type 0 where
  pub len : length w' ≡ length w
  pub holds : (m : Module) → ModuleRule m → Told m s numbers → (f : State → ℕ) → Holds m n f w → Holds m (n + 1) (earlier m l f) w'
  pub above : (x : ℕ) → total s.periods s.modes ≤ x → look w' x ≡ look w x
