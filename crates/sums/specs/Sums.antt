-- What is worked out over one module that numbers tell, and what a row of sums holds. Assumes nothing.
use Rattle.std.specs.Prelude.{Option, Some, None, ◌≡◌, List, ℕ, ◌+◌, ◌*◌, ◌≤◌, ◌<◌, length}
use Rattle.model.specs.Limits.{max_horizon}
use Rattle.model.specs.Sheet.{Module}
use Rattle.model.specs.WellFormed.{ModuleRule}
use Rattle.model.specs.Demand.{listed_demand}
use Rattle.model.specs.Verdict.{Quick}
use Rattle.memory.specs.Map.{marks_from, layer_part}
use Rattle.layers.specs.declared.Shape.{Shape}
use Rattle.layers.specs.Step.{look, total}
use Rattle.layers.specs.Layer.{Layer, Told, Each}
use Rattle.sums.specs.declared.Excess.{Excess}

-- w is the layer of length L of whichever module the numbers tell
abbrev pub Layered : Shape → List ℕ → ℕ → List ℕ → Type 0
Layered s numbers L w = Each s numbers (λ m. Layer m L w)

-- w' is that layer, and what lies past the module's states is as it was in w
pub record RunTo (s : Shape) (numbers : List ℕ) (L : ℕ) (w w' : List ℕ) : Type 0 where
  pub len : length w' ≡ length w
  pub layer : Layered s numbers L w'
  pub above : (x : ℕ) → total s.periods s.modes ≤ x → look w' x ≡ look w x

-- v is the largest demand in L ticks from any state of whichever module the numbers tell
abbrev pub Demands : Shape → List ℕ → ℕ → ℕ → Type 0
Demands s numbers L v = Each s numbers (λ m. v ≡ listed_demand m L)

-- The row of sums: of each length L at L, up to 2,000; behind it the part where a layer is worked out.

-- each sum is at most that of seven modules, whose demands are at most 16 for each of 2,000 ticks
abbrev pub Fits : ℕ → List ℕ → Type 0
Fits horizon w = (L : ℕ) → 1 ≤ L → L ≤ horizon → look w L ≤ 7 * 32000

-- to the sum at L + 1 that demand is added, and the layer's part has come to L + 1 ticks; the other sums, and what lies past that part, are as they were
pub record Added (s : Shape) (numbers : List ℕ) (L : ℕ) (w w' : List ℕ) : Type 0 where
  pub len : length w' ≡ length w
  pub layer : Layered s numbers (L + 1) (layer_part w')
  pub sum : (m : Module) → ModuleRule m → Told m s numbers → look w' (L + 1) ≡ look w (L + 1) + listed_demand m (L + 1)
  pub others : (x : ℕ) → x ≤ max_horizon → (x ≡ L + 1 → ⊥) → look w' x ≡ look w x
  pub above : (x : ℕ) → marks_from ≤ x → look w' x ≡ look w x

-- what neither the sums from 1 to n nor the layer's part hold is as it was
pub record Beside (n : ℕ) (w w' : List ℕ) : Type 0 where
  pub len : length w' ≡ length w
  pub first : look w' 0 ≡ look w 0
  pub later : (x : ℕ) → n < x → x ≤ max_horizon → look w' x ≡ look w x
  pub above : (x : ℕ) → marks_from ≤ x → look w' x ≡ look w x

-- to the sums from 1 to n those demands of whichever module the numbers tell are added
pub record Summed (s : Shape) (numbers : List ℕ) (n : ℕ) (w w' : List ℕ) : Type 0 where
  pub sums : (m : Module) → ModuleRule m → Told m s numbers → (L : ℕ) → 1 ≤ L → L ≤ n → look w' L ≡ look w L + listed_demand m L
  pub beside : Beside n w w'

-- The answer.

abbrev pub quick_of : Option Excess → Quick
quick_of None = Quick.clear
quick_of (Some x) = Quick.over x.length x.demand
