-- Which modes can be begun one tick after a state, and where a tape goes on there. Assumes nothing.
use Rattle.std.specs.Prelude.{◌≡◌, Bool, true, false, cond, ◌&&◌, ◌||◌, List, [], ◌∷◌, ℕ, zero, suc, ◌+◌, ◌-◌, ◌%◌, ◌<◌, leb, ltb, eqb}
use Rattle.model.specs.Lists.{when}
use Rattle.model.specs.Sheet.{Switch, Module, modes_in}
use Rattle.model.specs.Run.{State, at, mode_of, gain}
use Rattle.model.specs.Demand.{value}

-- one of the switches begins mode j, one tick after mode time d
abbrev pub leads : ℕ → List Switch → ℕ → Bool
leads d [] j = false
leads d (w ∷ ws) j = eqb w.target j && eqb ((d + 1) % w.period) 0 || leads d ws j

-- mode j can be begun one tick after s: it is the mode of s, which ends there, or a switch leads to it
unfoldable pub opens : Module → State → ℕ → Bool
opens m s j = eqb s.mode j && eqb (s.time + 1) (mode_of m s).period || leads s.time (mode_of m s).switches j

-- the lowest number below n that passes the test, or n where none does
abbrev pub lowest : (ℕ → Bool) → ℕ → ℕ
lowest p zero = zero
lowest p (suc n) = cond (p 0) 0 (suc (lowest (λ i. p (suc i)) n))

-- the state one tick after s in the same stay, and whether the stay goes on to it
abbrev pub stay : State → State
stay s = at s.mode (s.time + 1)

abbrev pub stays : Module → State → Bool
stays m s = ltb (s.time + 1) (mode_of m s).period

-- one tick after s, t goes on in the stay or begins a mode that opens
pub data Follows (m : Module) (s t : State) : Type 0 where
  in_stay : s.time + 1 < (mode_of m s).period → t ≡ stay s → Follows m s t
  at_head : (j : ℕ) → opens m s j ≡ true → t ≡ at j 0 → Follows m s t

-- mode j can be begun one tick after s, and its first state has the value top
abbrev pub attains : Module → (State → ℕ) → State → ℕ → ℕ → Bool
attains m f s top j = opens m s j && eqb (f (at j 0)) top

-- the lowest of these modes, or the number of modes where there is none
unfoldable pub head : Module → (State → ℕ) → State → ℕ → ℕ
head m f s top = lowest (attains m f s top) (modes_in m)

-- Where the tape goes on, for top the largest value after s: in the stay, where that goes on and has it and no lower mode has it; else in the
-- mode `head`.
unfoldable pub follow : Module → (State → ℕ) → State → ℕ → State
follow m f s top =
    let h = head m f s top in
    cond (stays m s && (eqb (f (stay s)) top && ltb s.mode h)) (stay s) (at h 0)

-- within how many ticks an instance released at tick t must be due to count in an interval from a to b: none counts before a
abbrev pub counted : ℕ → ℕ → ℕ → ℕ
counted a b t = when (leb a t) (b - t)

-- At tick t, in the state s, of the value v in an interval from a to b: what the gain leaves of the value, and the next state on the tape.
abbrev pub leaves : Module → ℕ → ℕ → ℕ → State → ℕ → ℕ
leaves m a b t s v = v - gain m s 0 (counted a b t)

abbrev pub onward : Module → ℕ → ℕ → ℕ → State → ℕ → State
onward m a b t s v = follow m (value m (a - suc t) (b - suc t)) s (leaves m a b t s v)
