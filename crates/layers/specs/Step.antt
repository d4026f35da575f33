-- What one step does to the numbers of a layer. These definitions speak of lists of numbers alone. Assumes nothing.
use Rattle.std.specs.Prelude.{◌≡◌, Bool, true, false, ◌&&◌, List, ℕ, zero, suc, ◌+◌, ◌-◌, ◌*◌, ◌/◌, ◌%◌, ◌≤◌, ◌<◌, max, leb, eqb, length, get_or, take, drop}
use Rattle.model.specs.Lists.{when, max_below}
use Rattle.layers.specs.declared.Shape.{Shape}

-- the sum of f at the numbers below n
abbrev pub sum_below : (ℕ → ℕ) → ℕ → ℕ
sum_below f zero = 0
sum_below f (suc n) = sum_below f n + f n

-- what a list holds at x
abbrev pub look : List ℕ → ℕ → ℕ
look xs x = get_or xs x 0

-- The numbers that tell a module.

-- the sum of the first n periods: where the part of the mode n begins
abbrev pub total : List ℕ → ℕ → ℕ
total periods n = sum_below (look periods) n

abbrev pub period : Shape → ℕ → ℕ
period s k = look s.periods k

-- whether the mode k lists the target t, and at which mode times its switch is open
abbrev pub lists : Shape → ℕ → ℕ → Bool
lists s k t = get_or s.listed (8 * k + t) false

abbrev pub every : Shape → ℕ → ℕ → ℕ
every s k t = look s.every (8 * k + t)

-- the numbers of the tasks of the mode k: four of each task, offset, gain, LET, period
abbrev pub tasks_of : Shape → List ℕ → ℕ → List ℕ
tasks_of s numbers k = take (look s.starts (k + 1) - look s.starts k) (drop (look s.starts k) numbers)

-- What stands at each position of a mode's part.

-- w' holds at each position x what u makes of what w held there
pub record Moved (u : ℕ → ℕ → ℕ) (w w' : List ℕ) : Type 0 where
  pub len : length w' ≡ length w
  pub each : (x : ℕ) → x < length w → look w' x ≡ u x (look w x)

-- w' holds, where x divided by q leaves r, what R makes of what w held there, and elsewhere the same
pub record Changed (q r : ℕ) (R : ℕ → ℕ → Type 0) (w w' : List ℕ) : Type 0 where
  pub len : length w' ≡ length w
  pub on : (x : ℕ) → x < length w → x % q ≡ r → R (look w x) (look w' x)
  pub off : (x : ℕ) → x < length w → (x % q ≡ r → ⊥) → look w' x ≡ look w x

-- A part is kept turned: after n steps the number of mode time d stands n positions further on. So a step moves no number. After step n + 1
-- the switches of period q are open one tick after the mode times whose numbers stand where n is left, divided by q, and a task releases at
-- those whose numbers stand where its offset and n + 1 more are left, divided by its period.

-- the head of a target that is listed and whose switch, of period q, is open
unfoldable pub offer_of : Bool → ℕ → ℕ → ℕ → ℕ → ℕ
offer_of listed q head n x = when (listed && eqb (x % q) (n % q)) head

abbrev pub offer : List Bool → List ℕ → ℕ → List ℕ → ℕ → ℕ → ℕ → ℕ
offer listed every k heads n x t = offer_of (get_or listed (8 * k + t) false) (look every (8 * k + t)) (look heads t) n x

-- the gain of task i, where it releases an instance that is due within l ticks: at mode time d, and at the position x
unfoldable pub due : List ℕ → ℕ → ℕ → ℕ → ℕ
due tasks l d i = when (leb (look tasks (4 * i + 2)) l && eqb (d % look tasks (4 * i + 3)) (look tasks (4 * i))) (look tasks (4 * i + 1))

unfoldable pub due_at : List ℕ → ℕ → ℕ → ℕ → ℕ → ℕ
due_at tasks l n x i =
    when (leb (look tasks (4 * i + 2)) l && eqb (x % look tasks (4 * i + 3)) ((look tasks (4 * i) + (n + 1)) % look tasks (4 * i + 3))) (look tasks (4 * i + 1))

-- v or the largest head that the first j targets offer; v and what the first j tasks gain
unfoldable pub offered : List Bool → List ℕ → ℕ → List ℕ → ℕ → ℕ → ℕ → ℕ → ℕ
offered listed every k heads n j x v = max v (max_below (offer listed every k heads n x) j)

unfoldable pub gained : List ℕ → ℕ → ℕ → ℕ → ℕ → ℕ → ℕ
gained tasks l n j x v = v + sum_below (due_at tasks l n x) j

-- one tick earlier: the number at position x of the mode k for l ticks, from v, the one that stood there
abbrev pub stepped : ℕ → List Bool → List ℕ → ℕ → List ℕ → List ℕ → ℕ → ℕ → ℕ → ℕ → ℕ
stepped modes listed every k tasks heads l n x v = gained tasks l n (length tasks / 4) x (offered listed every k heads n modes x v)

-- What stands in the layer.

-- what step n + 1 makes of the layer w at position x of the mode k
abbrev pub step_at : Shape → List ℕ → List ℕ → ℕ → ℕ → List ℕ → ℕ → ℕ → ℕ
step_at s numbers heads l n w k x = stepped s.modes s.listed s.every k (tasks_of s numbers k) heads l n x (look w (total s.periods k + x))

-- the parts of the modes below j are one step further, and nothing else has changed
pub record Stepped (s : Shape) (numbers heads : List ℕ) (l n j : ℕ) (w w' : List ℕ) : Type 0 where
  pub len : length w' ≡ length w
  pub each : (k x : ℕ) → k < j → x < period s k → look w' (total s.periods k + x) ≡ step_at s numbers heads l n w k x
  pub above : (x : ℕ) → total s.periods j ≤ x → look w' x ≡ look w x

-- the first n numbers are 0, and nothing else has changed
pub record Cleared (n : ℕ) (w w' : List ℕ) : Type 0 where
  pub len : length w' ≡ length w
  pub zeros : (x : ℕ) → x < n → look w' x ≡ 0
  pub above : (x : ℕ) → n ≤ x → look w' x ≡ look w x

-- What the step needs of the numbers.

-- each task is released before its period is over
abbrev pub TasksReady : List ℕ → Type 0
TasksReady tasks = (i : ℕ) → i < length tasks / 4 → look tasks (4 * i) < look tasks (4 * i + 3)

pub record ModeReady (s : Shape) (numbers : List ℕ) (k : ℕ) : Type 0 where
  pub positive : 1 ≤ period s k
  pub up : look s.starts k ≤ look s.starts (k + 1)
  pub within : look s.starts (k + 1) ≤ length numbers
  pub switches : (t : ℕ) → t < s.modes → lists s k t ≡ true → 1 ≤ every s k t
  pub tasks : TasksReady (tasks_of s numbers k)

pub record Ready (s : Shape) (numbers : List ℕ) : Type 0 where
  pub few : s.modes ≤ 8
  pub each : (k : ℕ) → k < s.modes → ModeReady s numbers k
