-- A tile that is widened from end to end. Assumes nothing.
use mathlib.Core.Path.{◌≡◌, sym}
use mathlib.Core.List.{List}
use Prim.Native.Nat.{ℕ, pred, ◌+◌, ◌*◌, ◌≤◌, ◌<◌}
use native.Mathlib.Omega.{arith}
use lib.ListN.{length}
use Rattle.model.specs.Lists.{when}
use Rattle.model.specs.Limits.{work_numbers}
use Rattle.memory.specs.Map.{cell_numbers}
use Rattle.cells.specs.Cells.{in_question, rows, Tile}
use Rattle.cells.proofs.Rows.{rows_most, rows_last}

-- a tile of one end at least and none past the horizon, and how many rows it has
pub record Widened (w : List ℕ) (lo horizon width n : ℕ) : Type 0 where
  pub tile : Tile w lo width
  pub some : 1 ≤ width
  pub within : lo + width ≤ horizon + 1
  pub count : n ≡ rows w (pred (lo + width))

module _ (w : List ℕ) (lo horizon : ℕ) (last : horizon ≤ 2000) where
  pub widened_one : (n : ℕ) → work_numbers ≤ length w → 1 ≤ lo → lo ≤ horizon → n ≡ rows w lo → Widened w lo horizon 1 n
  widened_one n room h l e = record {
    tile = record { memory = room; first = h; few = omega arith; ends = omega arith; room = omega (arith, rows_most w (pred (lo + 1))) };
    some = omega arith;
    within = omega arith;
    count = let same : pred (lo + 1) ≡ lo = omega arith in rw same e;
  }

  module _ (width n n' : ℕ) (t : Widened w lo horizon width n) (h : width < 512) (l : lo + width ≤ horizon) (e : n' ≡ n + when (in_question w (lo + width)) 1) where
    pub widened_more : n' * (width + 1) ≤ cell_numbers → Widened w lo horizon (width + 1) n'
    widened_more room = record {
      tile = record { memory = t.tile.memory; first = t.tile.first; few = omega arith; ends = omega arith; room = rw (sym count) (omega arith) };
      some = omega arith;
      within = omega arith;
      count = count;
    }
      where
        count : n' ≡ rows w (pred (lo + (width + 1)))
        count = let same : pred (lo + (width + 1)) ≡ lo + width = omega arith in rw same (omega (arith, t.count, rows_last w (lo + width) (omega arith)))
