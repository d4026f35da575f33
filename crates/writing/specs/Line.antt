-- What writing a line on does to it. Assumes nothing.
use Rattle.std.specs.Prelude.{◌≡◌, List, ℕ}
use Rattle.writing.specs.declared.Line.{Line}
use Rattle.writing.specs.Writing.{Put}

-- the line s is written on to t, by the bytes xs, in the same memory
pub record Wrote (s t : Line) (xs : List ℕ) : Type 0 where
  pub put : Put s.at t.at xs s.out.now t.out.now
  pub same : t.out.ghost_name ≡ s.out.ghost_name
