-- How the marks are made: what each step adds to them, and what the walk over the ticks needs and gives. Assumes nothing.
use Rattle.std.specs.Prelude.{◌≡◌, true, ◌⊎◌, List, ℕ, ◌+◌, ◌*◌, ◌≤◌, ◌<◌, length, get_or}
use Rattle.model.specs.Sheet.{Module}
use Rattle.model.specs.WellFormed.{ModuleRule}
use Rattle.entries.specs.Entry.{Entry}
use Rattle.layers.specs.declared.Shape.{Shape}
use Rattle.layers.specs.Step.{period, lists, every}
use Rattle.layers.specs.Layer.{Told}
use Rattle.memory.specs.Map.{mark_row_ticks, mark_numbers}
use Rattle.marks.specs.Marks.{marked, Marks}

-- the marks of w' are those of w and those of P, a relation of modes and ticks; the numbers behind the rows are as they were
pub record Marking (P : ℕ → ℕ → Type 0) (w w' : List ℕ) : Type 0 where
  pub len : length w' ≡ length w
  pub above : (x : ℕ) → mark_numbers ≤ x → get_or w' x 0 ≡ get_or w x 0
  pub old : (k t : ℕ) → k < 8 → t < mark_row_ticks → marked w k t ≡ true → marked w' k t ≡ true
  pub new : (k t : ℕ) → k < 8 → t < mark_row_ticks → P k t → marked w' k t ≡ true
  pub only : (k t : ℕ) → k < 8 → t < mark_row_ticks → marked w' k t ≡ true → (marked w k t ≡ true) ⊎ P k t

-- there is room for the marks, and t is a tick up to the horizon h
pub record Room (h t : ℕ) (w : List ℕ) : Type 0 where
  pub within : t ≤ h
  pub numbers : mark_numbers ≤ length w

-- tick x is one of the multiples of q in the p ticks after t
pub record Stride (p q t x : ℕ) : Type 0 where
  pub count : ℕ
  pub some : 1 ≤ count
  pub fits : count * q ≤ p
  pub reached : x ≡ t + count * q

-- the switch of the mode k, begun at tick t, to the mode j, which is below n, is open at tick x, up to the horizon h
pub record Opens (s : Shape) (h k t n j x : ℕ) : Type 0 where
  pub target : j < n
  pub listed : lists s k j ≡ true
  pub within : x ≤ h
  pub stride : Stride (period s k) (every s k j) t x

-- by these numbers the mode k, begun at tick t, leads to the mode j at tick x, up to the horizon h
pub data Follows (s : Shape) (h k t j x : ℕ) : Type 0 where
  again : j ≡ k → x ≡ t + period s k → x ≤ h → Follows s h k t j x
  switched : Opens s h k t s.modes j x → Follows s h k t j x

-- a mode below n that is marked at tick t leads to the mode j at tick x
pub record Tick (s : Shape) (h t n : ℕ) (w : List ℕ) (j x : ℕ) : Type 0 where
  pub mode : ℕ
  pub there : mode < n
  pub on : marked w mode t ≡ true
  pub follows : Follows s h mode t j x

-- what the walk needs of the numbers, and of the horizon h
pub record Walkable (s : Shape) (h : ℕ) : Type 0 where
  pub most : h ≤ 2000
  pub few : s.modes ≤ 8
  pub positive : (k : ℕ) → k < s.modes → 1 ≤ period s k
  pub switches : (k j : ℕ) → k < s.modes → j < s.modes → lists s k j ≡ true → 1 ≤ every s k j

-- the walk has come to tick t, and there is room for the marks: whatever a mode that is marked before t leads to is marked
pub record Walked (s : Shape) (h t : ℕ) (w : List ℕ) : Type 0 where
  pub room : Room h t w
  pub closed : (k e j x : ℕ) → k < s.modes → e < t → marked w k e ≡ true → Follows s h k e j x → marked w j x ≡ true

-- every mark is that of a mode, at a tick up to the horizon h
abbrev pub Inside : Shape → ℕ → List ℕ → Type 0
Inside s h w = (k t : ℕ) → k < 8 → t < mark_row_ticks → marked w k t ≡ true → (k < s.modes) × (t ≤ h)

-- it has come from the first entry: that is marked, and the marks, of modes up to the horizon, are entries of whichever module the numbers tell
pub record Followed (s : Shape) (h t : ℕ) (w : List ℕ) : Type 0 where
  pub walked : Walked s h t w
  pub first : marked w 0 0 ≡ true
  pub inside : Inside s h w
  pub sound : (m : Module) (numbers : List ℕ) → ModuleRule m → Told m s numbers → (k x : ℕ) → k < length m.modes → x ≤ h → marked w k x ≡ true → Entry m k x

-- the numbers behind the rows are as they were
pub record Kept (w w' : List ℕ) : Type 0 where
  pub len : length w' ≡ length w
  pub above : (x : ℕ) → mark_numbers ≤ x → get_or w' x 0 ≡ get_or w x 0

-- of whichever module the numbers tell, the marks are the entries up to the horizon, and nothing else is marked; the numbers behind the rows are as
-- they were
pub record Entered (s : Shape) (h : ℕ) (w w' : List ℕ) : Type 0 where
  pub len : length w' ≡ length w
  pub above : (x : ℕ) → mark_numbers ≤ x → get_or w' x 0 ≡ get_or w x 0
  pub marks : (m : Module) (numbers : List ℕ) → ModuleRule m → Told m s numbers → Marks m h w'
  pub inside : Inside s h w'
