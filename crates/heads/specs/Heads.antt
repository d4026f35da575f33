-- The heads of a module, the values of its modes' first states, tick by tick in the working memory. Assumes nothing.
use Rattle.std.specs.Prelude.{◌≡◌, cond, List, ℕ, ◌+◌, ◌-◌, ◌*◌, ◌/◌, ◌%◌, ◌≤◌, ◌<◌, eqb, length}
use Rattle.model.specs.Limits.{work_numbers}
use Rattle.model.specs.Sheet.{Module}
use Rattle.model.specs.WellFormed.{ModuleRule}
use Rattle.model.specs.Run.{State, at}
use Rattle.model.specs.Demand.{value}
use Rattle.memory.specs.Map.{heads_from}
use Rattle.layers.specs.declared.Shape.{Shape}
use Rattle.layers.specs.Step.{look}
use Rattle.layers.specs.Layer.{Told, Each, Holds}

-- where the heads of the modes 2 * i and 2 * i + 1 at tick t stand, both in one number
abbrev pub pair_at : ℕ → ℕ → ℕ
pair_at t i = heads_from + (4 * t + i)

-- the head of the mode j at tick t
unfoldable pub head_of : List ℕ → ℕ → ℕ → ℕ
head_of w t j = cond (eqb (j % 2) 0) (look w (pair_at t (j / 2)) % 65536) (look w (pair_at t (j / 2)) / 65536)

-- the heads at tick t are those of f
abbrev pub HeadsAt : Module → (State → ℕ) → ℕ → List ℕ → Type 0
HeadsAt m f t w = (j : ℕ) → j < length m.modes → head_of w t j ≡ f (at j 0)

-- the heads from tick t to b are those of the largest demands in a to b
abbrev pub HeadsFrom : Module → ℕ → ℕ → ℕ → List ℕ → Type 0
HeadsFrom m a b t w = (u : ℕ) → t ≤ u → u ≤ b → HeadsAt m (value m (a - u) (b - u)) u w

abbrev pub Filled : Shape → List ℕ → ℕ → ℕ → List ℕ → Type 0
Filled s numbers a b w = Each s numbers (λ m. HeadsFrom m a b 0 w)

-- the tops of the modes 2 * i and 2 * i + 1 in one number, each cut to 16 bits
abbrev pub pair_of : List ℕ → ℕ → ℕ
pair_of tops i = look tops (2 * i) % 65536 + 65536 * (look tops (2 * i + 1) % 65536)

-- the first n pairs of tick t are those of the tops, and nothing else has changed
pub record Packed (t n : ℕ) (tops w w' : List ℕ) : Type 0 where
  pub len : length w' ≡ length w
  pub here : (i : ℕ) → i < n → look w' (pair_at t i) ≡ pair_of tops i
  pub below : (x : ℕ) → x < pair_at t 0 → look w' x ≡ look w x
  pub above : (x : ℕ) → pair_at t n ≤ x → look w' x ≡ look w x

-- the heads at tick t are those of what the layer holds after n steps, and nothing else has changed
pub record Noted (s : Shape) (t n : ℕ) (w w' : List ℕ) : Type 0 where
  pub len : length w' ≡ length w
  pub heads : (m : Module) (numbers : List ℕ) (f : State → ℕ) → ModuleRule m → Told m s numbers → Holds m n f w
      → ((j : ℕ) → j < length m.modes → f (at j 0) < 65536) → HeadsAt m f t w'
  pub below : (x : ℕ) → x < pair_at t 0 → look w' x ≡ look w x
  pub above : (x : ℕ) → pair_at t 4 ≤ x → look w' x ≡ look w x

-- at tick t: the layer holds the largest demands in a to b from the states, and the heads from t to b stand
pub record BackTo (s : Shape) (numbers : List ℕ) (a b t : ℕ) (w : List ℕ) : Type 0 where
  pub layer : Each s numbers (λ m. Holds m (b - t) (value m (a - t) (b - t)) w)
  pub heads : Each s numbers (λ m. HeadsFrom m a b t w)

-- the numbers of the working memory from the 16,384th on are as they were
pub record Kept (w w' : List ℕ) : Type 0 where
  pub len : length w' ≡ length w
  pub above : (x : ℕ) → work_numbers ≤ x → look w' x ≡ look w x
