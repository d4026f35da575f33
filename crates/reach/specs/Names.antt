-- Rows that name modes: those of one round more, and the reached ones. Assumes nothing.
use Rattle.std.specs.Prelude.{◌≡◌, Bool, false, ◌&&◌, ◌||◌, List, ℕ, ◌+◌, ◌*◌, ◌≤◌, ◌<◌, length, get_or}
use Rattle.model.specs.Lists.{any_below}
use Rattle.model.specs.Limits.{max_modes}
use Rattle.model.specs.Demand.{reached}
use Rattle.layers.specs.declared.Shape.{Shape}
use Rattle.layers.specs.Layer.{Each}

-- whether one of the modes that the row names lists the mode t
unfoldable pub listed_by : List Bool → ℕ → List Bool → ℕ → Bool
listed_by listed modes row t = any_below (λ k. get_or row k false && get_or listed (8 * k + t) false) modes

-- whether the row of one round more names the mode t: the row does, or one of the modes that it names lists t
abbrev pub in_round : List Bool → ℕ → List Bool → ℕ → Bool
in_round listed modes row t = get_or row t false || listed_by listed modes row t

-- the row names the modes below n of which f holds, and no others
pub record Names (n : ℕ) (f : ℕ → Bool) (r : List Bool) : Type 0 where
  pub size : length r ≡ max_modes
  pub each : (k : ℕ) → k < n → get_or r k false ≡ f k
  pub past : (k : ℕ) → n ≤ k → get_or r k false ≡ false

-- the reached modes of whichever module the shape tells
abbrev pub NamesReached : Shape → List Bool → Type 0
NamesReached s r = (numbers : List ℕ) → Each s numbers (λ m. Names s.modes (reached m) r)
