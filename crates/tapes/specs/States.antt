-- States by value, and what stepping one answers. Assumes nothing.
use Rattle.std.specs.Prelude.{◌≡◌, ℕ, ◌<◌, Option, Some, None}
use Rattle.model.specs.Sheet.{Module}
use Rattle.model.specs.Run.{State as Moment, at, Next}
use Rattle.layers.specs.declared.Shape.{Shape}
use Rattle.layers.specs.Step.{period}
use Rattle.tapes.specs.declared.State.{State}

-- the state that the value is
abbrev pub the : State → Moment
the s = at s.mode s.time

-- a state of one of the modes that the shape tells
pub record Within (s : Shape) (x : State) : Type 0 where
  pub mode : x.mode < s.modes
  pub time : x.time < period s x.mode

-- stepped to the asked mode: the next state that is in it, or that none is
abbrev pub Answers : Module → State → ℕ → Option State → Type 0
Answers m s to (Some t) = Next m (the s) (the t) × (t.mode ≡ to)
Answers m s to None = (t : Moment) → Next m (the s) t → t.mode ≡ to → ⊥
