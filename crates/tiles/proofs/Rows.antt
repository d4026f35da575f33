-- The rows of the lengths in question: the sums alone decide them, and they stand one behind another. Assumes nothing.
use mathlib.Core.Path.{◌≡◌, refl, ap, ◌∙◌}
use mathlib.Core.Bool.{Bool, true, false}
use mathlib.Core.List.{List}
use Prim.Native.Nat.{ℕ, zero, suc, pred, ◌+◌, ◌*◌, ◌≤◌, ◌<◌}
use native.Mathlib.Nat.{add-mul, mul-le-mul_right}
use native.Mathlib.Decide.{dec_lt}
use native.Mathlib.Omega.{arith}
use lib.Dec.{ltb}
use lib.ListN.{length}
use Rattle.model.specs.Lists.{when}
use Rattle.layers.specs.Step.{look}
use Rattle.memory.specs.Map.{cells_from}
use Rattle.cells.specs.Cells.{in_question, Longest, rows, cell_at, Tile}
use Rattle.cells.proofs.Rows.{rows_before}

-- two memories with the same sums
module _ (w w' : List ℕ) (same : (x : ℕ) → x ≤ 2000 → look w' x ≡ look w x) where
  pub question_same : (L : ℕ) → L ≤ 2000 → in_question w' L ≡ in_question w L
  question_same L h = ap (ltb L) (same L h)

  pub longest_same : (n r : ℕ) → n ≤ 2000 → Longest w n r → Longest w' n r
  longest_same n r most p = record { within = p.within; longer = λ L h l. question_same L (omega arith) ∙ p.longer L h l }

  pub rows_same : (n : ℕ) → n ≤ 2000 → rows w' n ≡ rows w n
  unfolding rows
  rows_same zero h = refl
  rows_same (suc n) h = rw (question_same (suc n) h, rows_same n (omega arith))

  pub cell_same : (width L i : ℕ) → L ≤ 2000 → cell_at w' width L i ≡ cell_at w width L i
  cell_same width L i h = ap (λ (r : ℕ). cells_from + (r * width + i)) (rows_same (pred L) (omega arith))

  pub tile_same : (lo width : ℕ) → length w' ≡ length w → Tile w lo width → Tile w' lo width
  tile_same lo width e t = record {
    memory = omega arith;
    first = t.first;
    few = t.few;
    ends = t.ends;
    room = rw (rows_same (pred (lo + width)) (omega arith)) t.room;
  }

module _ (w : List ℕ) where
  -- the cells of a length in question stand before the rows of the lengths after it
  pub cell_before : (width L n i : ℕ) → 1 ≤ L → L ≤ n → in_question w L ≡ true → i < width → cell_at w width L i < cells_from + rows w n * width
  cell_before width L n i some h q l = omega (arith, add-mul (rows w (pred L)) 1 width, mul-le-mul_right width (rows_before w L some n h q))

  -- each row is that of a length in question
  pub row_of : (n r : ℕ) → r < rows w n → (L : ℕ) × (1 ≤ L) × (L ≤ n) × (in_question w L ≡ true) × (rows w (pred L) ≡ r)
  unfolding rows
  row_of zero r h = absurd (omega arith)
  row_of (suc n) r h = pick (in_question w (suc n)) refl h (dec_lt r (rows w n)) (row_of n r)
    where
      pick : (q : Bool) → in_question w (suc n) ≡ q → r < rows w n + when q 1 → Dec (r < rows w n)
          → (r < rows w n → (L : ℕ) × (1 ≤ L) × (L ≤ n) × (in_question w L ≡ true) × (rows w (pred L) ≡ r))
          → (L : ℕ) × (1 ≤ L) × (L ≤ suc n) × (in_question w L ≡ true) × (rows w (pred L) ≡ r)
      pick q e l (yes a) below = let (L, some, most, asked, row) = below a in (L, some, omega arith, asked, row)
      pick true e l (no a) below = (suc n, omega arith, omega arith, e, omega arith)
      pick false e l (no a) below = absurd (omega arith)
