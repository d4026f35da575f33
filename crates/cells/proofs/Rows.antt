-- The rows of the cells: there are no more than lengths, and each length in question has its own, within the cells of its tile. Assumes nothing.
use mathlib.Core.Path.{◌≡◌, refl, sym, ap, ◌∙◌}
use mathlib.Core.Bool.{Bool, true, false, cond}
use mathlib.Core.List.{List}
use Prim.Native.Nat.{ℕ, zero, suc, pred, ◌+◌, ◌*◌, ◌≤◌, ◌<◌}
use native.Mathlib.Nat.{mul-le-mul_right}
use native.Mathlib.Numerals.{add-one}
use native.Mathlib.Omega.{arith}
use lib.ListN.{length, take}
use Rattle.std.proofs.Common.{Some}
use Rattle.std.proofs.lemmas.List.{take_all}
use Rattle.std.specs.List.{count_by}
use Rattle.std.specs.Range.{range_inclusive_start, range_inclusive_end, range_inclusive_exhausted}
use Rattle.std.specs.Iterator.Runs.{Run}
use Rattle.std.proofs.iter.runs.Sources.{nat_range_inclusive_steps, inclusive_listed}
use Rattle.std.proofs.lemmas.List.Sums.{fold_more}
use Rattle.model.specs.Lists.{when}
use Rattle.model.specs.Limits.{work_numbers}
use Rattle.layers.specs.Step.{look, sum_below}
use Rattle.layers.proofs.Sums.{sum_grows}
use Rattle.cells.specs.Cells.{in_question, rows, cell_at, Tile}

when_most : (t : Bool) (n : ℕ) → when t n ≤ n
when_most true n = omega arith
when_most false n = omega arith

when_one : (t : Bool) → when t 1 ≡ cond t 1 0
when_one true = refl
when_one false = refl

module _ (w : List ℕ) where
  pub rows_none : rows w 0 ≡ 0
  unfolding rows
  rows_none = refl

  pub rows_more : (n : ℕ) → rows w (n + 1) ≡ rows w n + when (in_question w (n + 1)) 1
  unfolding rows
  rows_more n = rw (add-one n)

  pub rows_most : (n : ℕ) → rows w n ≤ n
  unfolding rows
  rows_most zero = omega arith
  rows_most (suc n) = omega (arith, rows_most n, when_most (in_question w (suc n)) 1)

  rows_sum : (n : ℕ) → rows w n ≡ sum_below (λ x. when (in_question w (x + 1)) 1) n
  unfolding rows
  rows_sum zero = refl
  rows_sum (suc n) = rw (add-one n, rows_sum n)

  pub rows_grow : (k n : ℕ) → k ≤ n → rows w k ≤ rows w n
  rows_grow k n h = rw (rows_sum k, rows_sum n) (sum_grows _ k n h)

  -- counted along a list of the lengths from 1 on
  rows_along : (xs : List ℕ) → ((k : ℕ) → k < length xs → look xs k ≡ 1 + k) → (n : ℕ) → n ≤ length xs → count_by (in_question w) (take n xs) ≡ rows w n
  rows_along xs up zero h = sym rows_none
  rows_along xs up (suc n) h =
      let here : n < length xs = omega arith in
      let same : 1 + n ≡ n + 1 = omega arith in
      rw (← add-one n) (fold_more (λ a L. a + cond (in_question w L) 1 0) 0 xs n 0 here ∙ rw (up n here, rows_along xs up n (omega arith), same, ← when_one (in_question w (n + 1))) (sym (rows_more n)))

  -- a walk over 1..=n
  pub rows_counted : (q : Run nat_range_inclusive_steps) (n : ℕ) → range_inclusive_start q.from ≡ 1 → range_inclusive_end q.from ≡ n → range_inclusive_exhausted q.from ≡ false → q.whole ≡ true
      → count_by (in_question w) q.items ≡ rows w n
  rows_counted q n start end fresh whole =
      let (a, b, from, to, walk) = inclusive_listed q q.seen in
      let up = (walk fresh).0 in
      let long : length q.items ≡ n = omega (arith, q.long, up.1 whole) in
      let each : (k : ℕ) → k < length q.items → look q.items k ≡ 1 + k =
      λ k h. let e : Some (look q.items k) ≡ Some (a + k) = sym (q.reads k 0 (omega (arith, q.long))) ∙ up.3 k (omega (arith, q.long)) in
      let f : look q.items k ≡ a + k = cc in
      omega arith in
      let all : take n q.items ≡ q.items = take_all n q.items (omega arith) in
      rw (← all) (rows_along q.items each n (omega arith))

  module _ (L : ℕ) (l : 1 ≤ L) where
    pub rows_last : rows w L ≡ rows w (pred L) + when (in_question w L) 1
    rows_last = let e : pred L + 1 ≡ L = omega arith in rw e at (rows_more (pred L))

    -- the row of a length in question stands before those of the longer ones
    pub rows_before : (n : ℕ) → L ≤ n → in_question w L ≡ true → rows w (pred L) + 1 ≤ rows w n
    rows_before n h q = omega (arith, rows_last, ap (λ (t : Bool). when t 1) q, rows_grow L n h)

    -- its row ends within the cells
    pub row_inside : (lo width : ℕ) → Tile w lo width → L < lo + width → in_question w L ≡ true → cell_at w width L width ≤ work_numbers
    row_inside lo width t h q = omega (arith, t.room, mul-le-mul_right width (rows_before (pred (lo + width)) (omega arith) q))

    -- the cell of the next length stands a row further where this one is in question
    pub cell_more : (width i : ℕ) → cell_at w width (L + 1) i ≡ cell_at w width L i + when (in_question w L) 1 * width
    cell_more width i = let e : pred (L + 1) ≡ L = omega arith in rw (e, rows_last) (omega arith)
