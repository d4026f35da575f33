-- The ticks at which the modes of a module can be begun, as bits: a row of numbers for each mode, 32 ticks in a number. Assumes nothing.
use Rattle.std.specs.Prelude.{◌≡◌, Bool, true, List, ℕ, ◌+◌, ◌*◌, ◌/◌, ◌%◌, ◌^◌, ◌≤◌, ◌<◌, eqb, length, get_or}
use Rattle.model.specs.Sheet.{Module}
use Rattle.memory.specs.Map.{mark_row_numbers}
use Rattle.entries.specs.Entry.{Entry}

-- tick t of the mode k is marked
abbrev pub marked : List ℕ → ℕ → ℕ → Bool
marked bits k t = eqb (get_or bits (mark_row_numbers * k + t / 32) 0 / 2 ^ (t % 32) % 2) 1

-- up to the horizon the marks are the entries
pub record Marks (m : Module) (horizon : ℕ) (bits : List ℕ) : Type 0 where
  pub sound : (k t : ℕ) → k < length m.modes → t ≤ horizon → marked bits k t ≡ true → Entry m k t
  pub complete : (k t : ℕ) → t ≤ horizon → Entry m k t → marked bits k t ≡ true
