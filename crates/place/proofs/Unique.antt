-- A figure that a contract states for whatever stands at a place is one figure. (Where a contract is an equation, nothing is left to show.) Assumes nothing.
use mathlib.Core.Path.{◌≡◌, sym, ◌∙◌}
use Prim.Native.Nat.{ℕ}
use Rattle.model.specs.Sheet.{Sheet}
use Rattle.format.specs.Record.{Record, tk}
use Rattle.place.specs.declared.Task.{Task as Numbers}
use Rattle.place.specs.Numbers.{task_of}
use Rattle.place.specs.There.{ModuleThere, ModesThere, ModeThere, SomeModule, SomeModes, SomeMode}

-- tasks_at, switches_from, switches_at, after_mode
pub mode_figure_unique : (s : Sheet) (p : ℕ) (f : ℕ → ℕ → ℕ) → SomeMode s p → (r r' : ℕ) → ((k j : ℕ) → ModeThere s k j p → r ≡ f k j) → ((k j : ℕ) → ModeThere s k j p → r' ≡ f k j) → r ≡ r'
mode_figure_unique s p f some r r' e e' = e some.k some.j some.there ∙ sym (e' some.k some.j some.there)

-- modes_at, after_module
pub module_figure_unique : (s : Sheet) (p : ℕ) (f : ℕ → ℕ) → SomeModule s p → (r r' : ℕ) → ((k : ℕ) → ModuleThere s k p → r ≡ f k) → ((k : ℕ) → ModuleThere s k p → r' ≡ f k) → r ≡ r'
module_figure_unique s p f some r r' e e' = e some.k some.there ∙ sym (e' some.k some.there)

-- mode_from
pub modes_figure_unique : (s : Sheet) (p j : ℕ) (f : ℕ → ℕ) → SomeModes s p j → (r r' : ℕ) → ((k : ℕ) → ModesThere s k p j → r ≡ f k) → ((k : ℕ) → ModesThere s k p j → r' ≡ f k) → r ≡ r'
modes_figure_unique s p j f some r r' e e' = e some.k some.there ∙ sym (e' some.k some.there)

-- task_at
pub task_unique : (r : Record) (x y : Numbers) → tk (task_of x) ≡ r → tk (task_of y) ≡ r → x ≡ y
task_unique r x y e e' =
    let same : task_of x ≡ task_of y = cc in
    λ i. record { offset = (same i).offset; cost = (same i).cost; due = (same i).LET; period = (same i).period }
