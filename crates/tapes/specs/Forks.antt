-- The heads of a module, and what is ahead of a state. Assumes nothing.
use Rattle.std.specs.Prelude.{◌≡◌, Bool, ℕ, ◌-◌, Option}
use Rattle.std.specs.Bool.{then_some}
use Rattle.model.specs.Lists.{when}
use Rattle.model.specs.Sheet.{Module}
use Rattle.model.specs.Run.{State as Moment, at}
use Rattle.model.specs.Demand.{value}
use Rattle.layers.specs.Layer.{Tells, Each}
use Rattle.following.specs.Follow.{opens, attains}
use Rattle.tapes.specs.declared.Heads.{Heads}
use Rattle.tapes.specs.declared.Fork.{Fork}
use Rattle.tapes.specs.States.{the}

-- the numbers tell a module
abbrev pub HeadsTold : Heads → Type 0
HeadsTold h = Tells h.shape.now h.numbers.now

-- P holds of each module that the numbers tell
abbrev pub EachOf : Heads → (Module → Type 0) → Type 0
EachOf h P = Each h.shape.now h.numbers.now P

abbrev pub IsTold : Fork → Type 0
IsTold x = HeadsTold x.heads

abbrev pub AtFork : Fork → (Module → Type 0) → Type 0
AtFork x P = EachOf x.heads P

abbrev pub modes_of : Fork → ℕ
modes_of x = x.heads.shape.now.modes

-- the values of the states at the tick that the fork leads to
abbrev pub ahead : Fork → Module → Moment → ℕ
ahead x m = value m (x.heads.a - x.t) (x.heads.b - x.t)

-- the head of the mode j, where it can be begun
abbrev pub head_of : Fork → Module → ℕ → Option ℕ
head_of x m j = then_some (opens m (the x.s) j) (ahead x m (at j 0))

-- that, or else 0
abbrev pub offer_of : Fork → Module → ℕ → ℕ
offer_of x m j = when (opens m (the x.s) j) (ahead x m (at j 0))

-- b tells whether mode j can be begun and has the top
pub record Attains (x : Fork) (top : ℕ) (b : Bool) (j : ℕ) : Type 0 where
  pub each : AtFork x (λ m. b ≡ attains m (ahead x m) (the x.s) top j)
