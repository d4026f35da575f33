-- A module's tape in the tape memory. Assumes nothing.
use Rattle.std.specs.Prelude.{◌≡◌, List, ℕ, ◌≤◌, length, take}
use Rattle.model.specs.Run.{first}
use Rattle.model.specs.Tape.{tape}
use Rattle.layers.specs.declared.Shape.{Shape}
use Rattle.layers.specs.Step.{look}
use Rattle.layers.specs.Layer.{Each}

-- the first b bytes are the tape of the module in a to b, and the others are as they were
pub record Taped (s : Shape) (numbers : List ℕ) (a b : ℕ) (w w' : List ℕ) : Type 0 where
  pub len : length w' ≡ length w
  pub written : Each s numbers (λ m. take b w' ≡ tape m a b first)
  pub above : (x : ℕ) → b ≤ x → look w' x ≡ look w x
