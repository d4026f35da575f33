-- The cells, lent and back with zeros in their place. Assumes nothing.
use mathlib.Core.Path.{◌≡◌, ap, ◌∙◌}
use mathlib.Core.List.{List}
use Prim.Native.Nat.{ℕ, ◌+◌, ◌-◌, ◌≤◌, ◌<◌}
use native.Mathlib.Omega.{arith}
use lib.ListN.{length}
use borrow.Rule.Slice.PartMut.{put_mid, mid_of, same_len_mid}
use Rattle.model.specs.Limits.{work_numbers}
use Rattle.layers.specs.Step.{look, Cleared}
use Rattle.layers.proofs.Parts.{part_length, back_here, back_below, back_above}
use Rattle.memory.specs.Map.{cells_from, cell_numbers}
use Rattle.cells.specs.Cells.{CellsCleared}

module _ (w ys : List ℕ) (room : work_numbers ≤ length w) (c : Cleared cell_numbers (mid_of cells_from cell_numbers w) ys) where
  size : length ys ≡ cell_numbers
  size = c.len ∙ part_length w cells_from cell_numbers room

  back_cell : (x : ℕ) → cells_from ≤ x → x < work_numbers → look (put_mid cells_from cell_numbers w ys) x ≡ look ys (x - cells_from)
  back_cell x a b =
      let e : x ≡ cells_from + (x - cells_from) = omega arith in
      ap (look (put_mid cells_from cell_numbers w ys)) e ∙ back_here w cells_from cell_numbers room ys size (x - cells_from) (omega arith)

  pub cells_cleared : CellsCleared w (put_mid cells_from cell_numbers w ys)
  cells_cleared = record {
    len = same_len_mid cells_from cell_numbers w ys c.len;
    cells = λ x a b. back_cell x a b ∙ c.zeros (x - cells_from) (omega arith);
    others = back_below w cells_from cell_numbers room ys;
    above = back_above w cells_from cell_numbers room ys size;
  }
