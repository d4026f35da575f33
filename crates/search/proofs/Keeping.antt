-- Where nothing before the layer has changed, the bounds are as they were, and so are the tile and what they decide. Assumes nothing.
use mathlib.Core.Path.{◌≡◌, sym, ◌∙◌}
use mathlib.Core.List.{List}
use Prim.Native.Nat.{ℕ, ◌+◌, ◌≤◌}
use native.Mathlib.Omega.{arith}
use Rattle.model.specs.Sheet.{Sheet}
use Rattle.layers.specs.Step.{look}
use Rattle.memory.specs.Map.{layer_from}
use Rattle.cells.specs.Cells.{Longest, Tile}
use Rattle.tiles.specs.Tiles.{Within}
use Rattle.tiles.proofs.Rows.{question_same, longest_same, tile_same}
use Rattle.search.specs.Search.{Passed}

module _ {e : ℕ} {w w' : List ℕ} (kept : Within layer_from e w w') where
  pub same : (x : ℕ) → x ≤ 2000 → look w' x ≡ look w x
  same x h = kept.below x (omega arith)

  pub tile_kept : {lo width : ℕ} → Tile w lo width → Tile w' lo width
  tile_kept {lo} {width} t = tile_same w w' same lo width kept.len t

  pub longest_kept : {m n r : ℕ} → m ≡ n → m ≤ 2000 → Longest w n r → Longest w' m r
  longest_kept {m} {n} {r} e most p = rw e (longest_same w w' same n r (omega arith) p)

  pub passed_kept : (s : Sheet) (lo range : ℕ) → lo + range ≤ 2001 → Passed s lo range w → Passed s lo range w'
  passed_kept s lo range ends p L i h k l q = p L i h k l (sym (question_same w w' same L (omega arith)) ∙ q)
