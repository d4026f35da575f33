-- Mode demand, state demand, module demand, and the largest demand in an interval: each as a relation over runs, and what computes it. Assumes nothing.
use Rattle.std.specs.Prelude.{◌≡◌, Bool, true, false, ◌&&◌, ◌||◌, List, [], ◌∷◌, ℕ, zero, suc, pred, ◌+◌, ◌-◌, ◌*◌, ◌/◌, ◌%◌, ◌<◌, ltb, eqb, length}
use Rattle.model.specs.Lists.{when, sum_of, max_of, max_below, any_below, IsLargest}
use Rattle.model.specs.Sheet.{Task, Switch, Mode, Module, named}
use Rattle.model.specs.Run.{State, at, first, mode_at, mode_of, Inside, Reached, Run, IsRun, gain, demand}

-- What the demands are.

-- v is the largest value of F over all runs from s
abbrev pub Largest : Module → State → (Run → ℕ) → ℕ → Type 0
Largest m s F v = IsLargest (λ w. (ρ : Run) × IsRun m s ρ × (F ρ ≡ w)) v

abbrev pub StateDemand : Module → State → ℕ → ℕ → Type 0
StateDemand m s L v = Largest m s (λ ρ. demand m ρ 0 L) v

-- the largest state demand over all states of reached modes
abbrev pub ModuleDemand : Module → ℕ → ℕ → Type 0
ModuleDemand m L v = IsLargest (λ w. (s : State) × Inside m s × Reached m s.mode × StateDemand m s L w) v

-- the largest demand in a to b of any run from tick 0
abbrev pub IntervalDemand : Module → ℕ → ℕ → ℕ → Type 0
IntervalDemand m a b v = Largest m first (λ ρ. demand m ρ a b) v

-- a run that begins mode k and is in it at the b first mode times
pub record Stays (m : Module) (k b : ℕ) (ρ : Run) : Type 0 where
  pub run : IsRun m (at k 0) ρ
  pub stays : (t : ℕ) → t < b → ρ t ≡ at k t

-- inside one mode period: such runs exist, and v is the demand of each
pub record ModeDemand (m : Module) (k a b v : ℕ) : Type 0 where
  pub some : (ρ : Run) × Stays m k b ρ
  pub every : (ρ : Run) → Stays m k b ρ → demand m ρ a b ≡ v

-- What computes them.

-- How many instances of the task are released at or after a and due at or before b: of those due by b (the quotient rounded down, and one
-- more), those that are not released before a (the release term rounded up) (source, equation 5, with that difference).
unfoldable pub instances : Task → ℕ → ℕ → ℕ
instances k a b = (b + (k.period - (k.offset + k.LET))) / k.period - (a + (k.period - (k.offset + 1))) / k.period

unfoldable pub mode_demand : Mode → ℕ → ℕ → ℕ
mode_demand o a b = sum_of (λ k. instances k a b * k.cost) o.tasks

abbrev pub cons_if : {A : Type 0} → Bool → A → List A → List A
cons_if true x xs = x ∷ xs
cons_if false x xs = xs

-- the states that the mode's switches lead to, one tick after mode time d
abbrev pub targets : ℕ → List Switch → List State
targets d [] = []
targets d (w ∷ ws) = cons_if (eqb ((d + 1) % w.period) 0) (at w.target 0) (targets d ws)

-- the states after one tick
unfoldable pub nexts : Module → State → List State
nexts m s =
    let o = mode_of m s in
    cons_if (ltb (s.time + 1) o.period) (at s.mode (s.time + 1))
    (cons_if (eqb (s.time + 1) o.period) (at s.mode 0)
    (targets s.time o.switches))

-- what a run gains in its first tick, in an interval from a to b
abbrev pub gain_first : Module → ℕ → ℕ → State → ℕ
gain_first m zero b s = gain m s 0 b
gain_first m (suc a) b s = 0

-- the largest demand in a to b of any run from s: the first tick, then the best of the next states, for which a and b are a tick nearer
unfoldable pub value : Module → ℕ → ℕ → State → ℕ
value m a zero s = 0
value m a (suc b) s = gain_first m a (suc b) s + max_of (value m (pred a) b) (nexts m s)

-- whether the mode k is reached in n rounds: in none, mode 0; in each round more, what a mode that has been reached lists
unfoldable pub reached_in : Module → ℕ → ℕ → Bool
reached_in m zero k = eqb k 0
reached_in m (suc n) k = reached_in m n k || any_below (λ j. reached_in m n j && named k (mode_at m j).switches) (length m.modes)

-- as many rounds as there are modes reach all that is reached
unfoldable pub reached : Module → ℕ → Bool
reached m k = reached_in m (length m.modes) k

-- the largest demand in L ticks from the mode times of the mode k
abbrev pub in_mode : Module → ℕ → ℕ → ℕ
in_mode m L k = max_below (λ d. value m 0 L (at k d)) (mode_at m k).period

-- from all states of listed modes
unfoldable pub listed_demand : Module → ℕ → ℕ
listed_demand m L = max_below (in_mode m L) (length m.modes)

-- from all states of reached modes
unfoldable pub module_demand : Module → ℕ → ℕ
module_demand m L = max_below (λ k. when (reached m k) (in_mode m L k)) (length m.modes)
