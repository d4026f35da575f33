-- The largest number that is offered to an end of a range of ends. These definitions speak of lists of numbers alone. Assumes nothing.
use Rattle.std.specs.Prelude.{[], ◌∷◌, ℕ, ◌<◌}
use Rattle.figures.specs.Offers.{Ends, Raised}

-- the ends of a range, with one number for all of them
abbrev pub range_ends : ℕ → ℕ → Ends
range_ends lo width = record { lo = lo; width = width; row = 1; spot = λ i. 0 }

-- r is the largest of g and of the numbers that P offers to one of so many ends: g is raised as a row of one number, to which all ends are one
abbrev pub Topped : (ℕ → ℕ → Type 0) → ℕ → ℕ → ℕ → Type 0
Topped P width g r = Raised (λ (_ v : ℕ). (i : ℕ) × (i < width) × P i v) (g ∷ []) (r ∷ [])
