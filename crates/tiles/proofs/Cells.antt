-- One length after another the figures of the module are added to all rows. Assumes nothing.
use mathlib.Core.Path.{◌≡◌, refl, sym, ◌∙◌}
use mathlib.Core.Bool.{true}
use mathlib.Core.List.{List}
use Prim.Native.Nat.{ℕ, pred, ◌+◌, ◌-◌, ◌*◌, ◌^◌, ◌≤◌, ◌<◌}
use native.Mathlib.Nat.{add-mul, mul-le-mul_right}
use native.Mathlib.Decide.{dec_le}
use native.Mathlib.Omega.{arith}
use lib.ListN.{length}
use Rattle.model.specs.Run.{first}
use Rattle.model.specs.Demand.{value}
use Rattle.layers.specs.declared.Shape.{Shape}
use Rattle.layers.specs.Step.{look}
use Rattle.layers.specs.Layer.{Tells, Each}
use Rattle.figures.proofs.Offered.{not_both}
use Rattle.figures.proofs.Tiles.{figures_bound}
use Rattle.memory.specs.Map.{layer_from, cells_from}
use Rattle.cells.specs.Cells.{in_question, Longest, rows, cell_at, Tile}
use Rattle.tiles.specs.Tiles.{Within, Progressed, RowFits, RowAdded, CellsFit, ModuleAdded}
use Rattle.cells.proofs.Rows.{rows_more, rows_grow}
use Rattle.tiles.proofs.Rows.{question_same, rows_same, cell_same, cell_before}
use Rattle.tiles.proofs.Parts.{within_none, within_wider, within_then}

-- One length after another.

module _ (s : Shape) (numbers : List ℕ) (lo width : ℕ) (w : List ℕ) where
  pub module_start : ModuleAdded s numbers lo width 0 w w
  module_start = record { cells = λ m ok told L i h l. absurd (omega arith); within = within_none _ _ w }

  -- the lengths that are not in question have no cells
  pub module_rest : (k n : ℕ) (w' : List ℕ) → Longest w n k → ModuleAdded s numbers lo width k w w' → ModuleAdded s numbers lo width n w w'
  module_rest k n w' p done = record {
    cells = λ m ok told L i h l q j. pick L l q (dec_le L k) (λ a. done.cells m ok told L i h a q j);
    within = within_wider done.within _ _ (omega arith) (omega (arith, mul-le-mul_right width (rows_grow w k n p.within)));
  }
    where
      pick : {C : Type 0} (L : ℕ) → L ≤ n → in_question w L ≡ true → Dec (L ≤ k) → (L ≤ k → C) → C
      pick L l q (yes a) on = on a
      pick L l q (no a) on = absurd (not_both q (p.longer L (omega arith) l))

  -- with the figures for n + 1 ticks
  module _ (n : ℕ) (w₁ w' fig₁ fig : List ℕ) (before : ModuleAdded s numbers lo width n w w₁) (on : Progressed s numbers lo (n + 1) w₁ w' fig₁ fig)
      (same : length fig₁ ≡ width) (most : n < 2000) (row : ℕ) (e : row ≡ rows w n) where
    done : ModuleAdded s numbers lo width n w w'
    done = record {
      cells = λ m ok told L i h l q j. on.within.above (cell_at w width L i) (omega arith) ∙ before.cells m ok told L i h l q j;
      within = within_then before.within (within_wider on.within _ _ (omega arith) (omega arith));
    }

    size : length fig ≡ width
    size = on.size ∙ same

    -- the next length is in question as it was, and its row is as it was
    question : in_question w' (n + 1) ≡ in_question w (n + 1)
    question = question_same w w' (λ x h. done.within.below x (omega arith)) (n + 1) (omega arith)

    place : (i : ℕ) → cells_from + (row * width + i) ≡ cell_at w width (n + 1) i
    place i = let back : pred (n + 1) ≡ n = omega arith in rw (e, back)

    fresh : (i : ℕ) → look w' (cell_at w width (n + 1) i) ≡ look w (cell_at w width (n + 1) i)
    fresh i = let back : pred (n + 1) ≡ n = omega arith in rw back (done.within.above (cells_from + (rows w n * width + i)) (omega arith))

    pub row_fits : Tells s numbers → Tile w lo width → CellsFit w lo width → n < pred (lo + width) → in_question w' (n + 1) ≡ true → RowFits fig row w'
    row_fits t tile low h q = record { room = rw size room; low = rw size below }
      where
        asked : in_question w (n + 1) ≡ true
        asked = sym question ∙ q

        last : rows w n + 1 ≤ rows w (pred (lo + width))
        last = let next : rows w (n + 1) ≡ rows w n + 1 = rw asked at (rows_more w n) in omega (arith, rows_grow w (n + 1) (pred (lo + width)) (omega arith))

        room : cells_from + (row * width + width) ≤ length w'
        room = rw e (omega (arith, done.within.len, add-mul (rows w n) 1 width, mul-le-mul_right width last))

        few : (i : ℕ) → i < width → look fig i ≤ 32000
        few i l = figures_bound t.owner t.rule lo (n + 1) fig (on.each t.owner t.rule t.told).figures (omega (arith, size)) i (omega (arith, size))

        below : (i : ℕ) → i < width → look w' (cells_from + (row * width + i)) + look fig i < 2 ^ 32
        below i l = rw (place i, fresh i) (omega (arith, few i l, low (n + 1) i (omega arith) (omega arith) asked l))

    pub module_more : (r : ℕ) (w'' : List ℕ) → RowAdded fig (n + 1) row r w' w'' → (r ≡ rows w (n + 1)) × ModuleAdded s numbers lo width (n + 1) w w''
    module_more r w'' new = (next, record { cells = cells; within = within })
      where
        next : r ≡ rows w (n + 1)
        next = new.next ∙ rw (question, e) (sym (rows_more w n))

        rest : Within (cells_from + rows w n * width) (cells_from + rows w (n + 1) * width) w' w''
        rest = rw (size, e, next) at new.within

        up : rows w n * width ≤ rows w (n + 1) * width
        up = mul-le-mul_right width (rows_grow w n (n + 1) (omega arith))

        within : Within layer_from (cells_from + rows w (n + 1) * width) w w''
        within = within_then (within_wider done.within _ _ (omega arith) (omega (arith, up))) (within_wider rest _ _ (omega arith) (omega arith))

        cells : Each s numbers (λ m. (L i : ℕ) → 1 ≤ L → L ≤ n + 1 → in_question w L ≡ true → i < width
            → look w'' (cell_at w width L i) ≡ look w (cell_at w width L i) + value m (lo + i - L) (lo + i) first)
        cells m ok told L i h l q j = pick (dec_le L n)
          where
            here : in_question w (n + 1) ≡ true → look w'' (cell_at w width (n + 1) i) ≡ look w (cell_at w width (n + 1) i) + value m (lo + i - (n + 1)) (lo + i) first
            here a =
                let added = rw size at (new.cells (question ∙ a) i (omega (arith, size))) in
                rw (place i) at added ∙ rw (fresh i, (on.each m ok told).figures i (omega (arith, size))) refl

            pick : Dec (L ≤ n) → look w'' (cell_at w width L i) ≡ look w (cell_at w width L i) + value m (lo + i - L) (lo + i) first
            pick (yes a) = rest.below (cell_at w width L i) (cell_before w width L n i h a q j) ∙ done.cells m ok told L i h a q j
            pick (no a) = let last : L ≡ n + 1 = omega arith in rw last (here (rw last at q))

-- The module's part is begun in w₁: the cells are as they were in w, and what is added to them there is added to those of w.

module _ (lo width : ℕ) (w w₁ : List ℕ) (begun : Within layer_from cells_from w w₁) (ends : lo + width ≤ 2001) where
  sums : (x : ℕ) → x ≤ 2000 → look w₁ x ≡ look w x
  sums x h = begun.below x (omega arith)

  held : (L i : ℕ) → look w₁ (cell_at w width L i) ≡ look w (cell_at w width L i)
  held L i = begun.above (cell_at w width L i) (omega arith)

  pub fit_begun : CellsFit w lo width → CellsFit w₁ lo width
  fit_begun low L i h l q j =
      let short : L ≤ 2000 = omega arith in
      rw (cell_same w w₁ sums width L i short, held L i) (low L i h l (sym (question_same w w₁ sums L short) ∙ q) j)

  pub module_begun : (s : Shape) (numbers w₂ : List ℕ) → ModuleAdded s numbers lo width (pred (lo + width)) w₁ w₂ → ModuleAdded s numbers lo width (pred (lo + width)) w w₂
  module_begun s numbers w₂ done = record {
    cells = λ m ok told L i h l q j.
        let short : L ≤ 2000 = omega arith in
        rw (cell_same w w₁ sums width L i short, held L i) at (done.cells m ok told L i h l (question_same w w₁ sums L short ∙ q) j);
    within = within_then (within_wider begun _ _ (omega arith) (omega arith)) (rw (rows_same w w₁ sums (pred (lo + width)) (omega arith)) at done.within);
  }
