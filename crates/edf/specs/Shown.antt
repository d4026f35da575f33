-- The runs that the witness shows (document 01, 'Runs': the tapes). Assumes nothing.
use Rattle.std.specs.Prelude.{◌≡◌, List, ℕ}
use Rattle.model.specs.Lists.{Nth}
use Rattle.model.specs.Tape.{tape_of}
use Rattle.edf.specs.Work.{Runs}

-- the mode numbers of each module's run, at the ticks 0 to b - 1, are its tape
abbrev pub Shown : Runs → ℕ → List (List ℕ) → Type 0
Shown ρs b ts = (k : ℕ) (tape : List ℕ) → Nth ts k tape → tape_of (ρs k) b ≡ tape
