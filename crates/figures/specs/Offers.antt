-- What is offered to ends, and what a row of numbers takes of it. These definitions speak of lists of numbers alone. Assumes nothing.
use Rattle.std.specs.Prelude.{◌≡◌, ◌⊎◌, Bool, true, false, List, ℕ, ◌+◌, ◌*◌, ◌/◌, ◌%◌, ◌≤◌, ◌<◌, length, take, drop}
use Rattle.layers.specs.declared.Shape.{Shape}
use Rattle.layers.specs.Step.{look, total, period, tasks_of}
use Rattle.marks.specs.Marks.{marked}

-- w' holds at each position the largest of what w held and of the numbers v that P offers there
pub record Raised (P : ℕ → ℕ → Type 0) (w w' : List ℕ) : Type 0 where
  pub len : length w' ≡ length w
  pub keeps : (i : ℕ) → i < length w → look w i ≤ look w' i
  pub offered : (i v : ℕ) → i < length w → P i v → v ≤ look w' i
  pub only : (i : ℕ) → i < length w → (look w' i ≡ look w i) ⊎ P i (look w' i)

-- Ends that numbers are offered to: the first, how many there are, how many numbers the row has for them, and where in it that of the end lo + i stands.
pub record Ends : Type 0 where
  pub lo : ℕ
  pub width : ℕ
  pub row : ℕ
  pub spot : ℕ → ℕ

-- the ends of a tile, each with a number of its own
abbrev pub tile_ends : ℕ → ℕ → Ends
tile_ends lo width = record { lo = lo; width = width; row = width; spot = λ i. i }

-- v is offered to an end whose number stands at j
abbrev pub Put : Ends → (ℕ → ℕ → Type 0) → ℕ → ℕ → Type 0
Put ends P j v = (i : ℕ) × (i < ends.width) × (ends.spot i ≡ j) × P i v

-- the row takes what P offers to the ends
abbrev pub Took : Ends → (ℕ → ℕ → Type 0) → List ℕ → List ℕ → Type 0
Took ends P = Raised (Put ends P)

-- one of the numbers below n offers v at i
abbrev pub Below : (ℕ → ℕ → ℕ → Type 0) → ℕ → ℕ → ℕ → Type 0
Below P n i v = (x : ℕ) × (x < n) × P x i v

-- the tick e, where mode k is marked, offers the number n to the end lo + i, so many ticks later
pub record TickOffer (bits : List ℕ) (k lo far n e i v : ℕ) : Type 0 where
  pub marked : marked bits k e ≡ true
  pub ends : e + far ≡ lo + i
  pub value : v ≡ n

-- Where mode k is marked at tick e, its mode time d begins l ticks before the end e + d + l, to which it offers what its part of the layer for
-- l ticks holds of it; d is one at which a task of this offset and period is released.
pub record TimeOffer (part bits : List ℕ) (k lo l offset every d i v : ℕ) : Type 0 where
  pub inside : d < length part
  pub released : d % every ≡ offset
  pub tick : ℕ
  pub offer : TickOffer bits k lo (d + l) (look part ((d + l) % length part)) tick i v

-- one of the ticks offers, and one of the mode times
abbrev pub TicksOffer : List ℕ → ℕ → ℕ → ℕ → ℕ → ℕ → ℕ → Type 0
TicksOffer bits k lo far n i v = (e : ℕ) × TickOffer bits k lo far n e i v

abbrev pub TimesOffer : List ℕ → List ℕ → ℕ → ℕ → ℕ → ℕ → ℕ → ℕ → ℕ → Type 0
TimesOffer part bits k lo l offset every i v = (d : ℕ) × TimeOffer part bits k lo l offset every d i v

-- task j, where its LET is at most l, offers at each of its releases
pub record TaskOffer (part tasks bits : List ℕ) (k lo l j i v : ℕ) : Type 0 where
  pub due : look tasks (4 * j + 2) ≤ l
  pub time : ℕ
  pub offer : TimeOffer part bits k lo l (look tasks (4 * j)) (look tasks (4 * j + 3)) time i v

-- one of the tasks of mode k offers
abbrev pub ModeOffer : List ℕ → List ℕ → List ℕ → ℕ → ℕ → ℕ → ℕ → ℕ → Type 0
ModeOffer part tasks bits k lo l = Below (TaskOffer part tasks bits k lo l) (length tasks / 4)

-- the part of mode k in the layer
abbrev pub part_of : Shape → List ℕ → ℕ → List ℕ
part_of s layer k = take (period s k) (drop (total s.periods k) layer)

-- mode k of the shape offers
abbrev pub ShapeOffer : Shape → List ℕ → List ℕ → List ℕ → ℕ → ℕ → ℕ → ℕ → ℕ → Type 0
ShapeOffer s numbers layer bits lo l k = ModeOffer (part_of s layer k) (tasks_of s numbers k) bits k lo l

-- none of the r ticks from t on, at most 32, is marked; and where r is 0, t is
pub record Quiet (bits : List ℕ) (k t r : ℕ) : Type 0 where
  pub most : r ≤ 32
  pub none : (x : ℕ) → x < r → marked bits k (t + x) ≡ false
  pub some : r ≡ 0 → marked bits k t ≡ true

-- r says whether a tick from a on and before b is marked
pub record AnyMark (bits : List ℕ) (k a b : ℕ) (r : Bool) : Type 0 where
  pub none : r ≡ false → (t : ℕ) → a ≤ t → t < b → marked bits k t ≡ false
  pub some : r ≡ true → (t : ℕ) × (a ≤ t) × (t < b) × (marked bits k t ≡ true)
