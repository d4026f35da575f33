-- When a mode can be begun, and which states gain something. Assumes nothing.
use Rattle.std.specs.Prelude.{◌≡◌, true, ℕ, ◌+◌, ◌*◌, ◌≤◌}
use mathlib.Core.List.{Memᴰ}
use Rattle.model.specs.Sheet.{Task, Switch, Module}
use Rattle.model.specs.Run.{State, mode_at, mode_of, releases}

-- Mode k can be begun at tick t: as the first, after itself, or by a switch, which is open at each multiple of its period in the stay.
pub data Entry (m : Module) : ℕ → ℕ → Type 0 where
  begins : {k t : ℕ} → k ≡ 0 → t ≡ 0 → Entry m k t
  again : {k t : ℕ} (e : ℕ) → Entry m k e → t ≡ e + (mode_at m k).period → Entry m k t
  switched : {k t : ℕ} (j e i : ℕ) (w : Switch) → Entry m j e → Memᴰ w (mode_at m j).switches → w.target ≡ k
      → 1 ≤ i → i * w.period ≤ (mode_at m j).period → t ≡ e + i * w.period → Entry m k t

-- Mode j, begun at tick e, leads to mode k at tick t with no entry between.
pub data Leads (m : Module) (j e k t : ℕ) : Type 0 where
  again : k ≡ j → t ≡ e + (mode_at m j).period → Leads m j e k t
  switched : (i : ℕ) (w : Switch) → Memᴰ w (mode_at m j).switches → w.target ≡ k → 1 ≤ i → i * w.period ≤ (mode_at m j).period → t ≡ e + i * w.period → Leads m j e k t

-- a task of the current mode releases an instance in the state s that is due within L ticks
pub record Releasing (m : Module) (s : State) (L : ℕ) : Type 0 where
  pub task : Task
  pub listed : Memᴰ task (mode_of m s).tasks
  pub released : releases s task ≡ true
  pub due : task.LET ≤ L
