-- The first interval that is over, looked for from length to length at one end, and from end to end. Assumes nothing.
use mathlib.Core.Path.{◌≡◌, sym, ap, ◌∙◌}
use mathlib.Core.Bool.{Bool, true, false}
use mathlib.Core.List.{List}
use Prim.Native.Nat.{ℕ, suc, ◌+◌, ◌-◌, ◌*◌, ◌≤◌, ◌<◌}
use native.Mathlib.Nat.{add-zero}
use native.Mathlib.Omega.{arith}
use lib.Dec.{ltb}
use borrow.Author.Tests.{lt-ltb, le-ltb}
use Rattle.model.specs.Lists.{when}
use Rattle.model.specs.Limits.{work_numbers}
use Rattle.model.specs.Verdict.{Exact, exact_pick, or_else, exact_at, exact_from}
use Rattle.layers.specs.Step.{look}
use Rattle.memory.specs.Map.{cells_from}
use Rattle.cells.specs.Cells.{in_question, cell_at, Tile, Holding}
use Rattle.cells.proofs.Rows.{rows_none, cell_more, row_inside}

module _ (f : ℕ → ℕ → ℕ) (b : ℕ) where
  -- the intervals of the lengths from L on that end at b
  unfoldable pub longer : ℕ → Exact
  longer L = exact_at f b (b + 1 - L)

  longer_start : exact_at f b b ≡ longer 1
  unfolding longer
  longer_start = let e : b + 1 - 1 ≡ b = omega arith in rw e

  longer_none : (L : ℕ) → b < L → longer L ≡ Exact.clear
  unfolding longer
  longer_none L h = let e : b + 1 - L ≡ 0 = omega arith in rw e

  module _ (L : ℕ) (h : L ≤ b) where
    longer_cut : longer L ≡ exact_pick (ltb L (f (b - L) b)) (b - L) b (f (b - L) b) (longer (L + 1))
    unfolding longer
    longer_cut =
        let e : b + 1 - L ≡ suc (b - L) = omega arith in
        let n : b + 1 - (L + 1) ≡ b - L = omega arith in
        let s : b - (b - L) ≡ L = omega arith in
        rw (e, n, s)

    longer_here : L < f (b - L) b → longer L ≡ Exact.over (b - L) b (f (b - L) b)
    longer_here l = rw (longer_cut, lt-ltb L (f (b - L) b) l)

    longer_on : f (b - L) b ≤ L → longer L ≡ longer (L + 1)
    longer_on l = rw (longer_cut, le-ltb L (f (b - L) b) l)

-- at the end of the number i the lengths before L are passed, and x is where the cell of L stands or would stand
pub record Passed (w : List ℕ) (lo width i L x : ℕ) : Type 0 where
  pub low : 1 ≤ L
  pub high : L ≤ lo + i + 1
  pub cell : x ≡ cell_at w width L i
  pub rest : (f : ℕ → ℕ → ℕ) → Holding f w lo width → exact_at f (lo + i) (lo + i) ≡ longer f (lo + i) L

module _ (w : List ℕ) (lo width i : ℕ) where
  pub passed_none : Passed w lo width i 1 (cells_from + i)
  passed_none = record {
    low = omega arith;
    high = omega arith;
    cell = rw (rows_none w) (omega arith);
    rest = λ f hold. longer_start f (lo + i);
  }

  module _ (L x : ℕ) (p : Passed w lo width i L x) where
    pub passed_all : lo + i < L → (f : ℕ → ℕ → ℕ) → Holding f w lo width → Exact.clear ≡ exact_at f (lo + i) (lo + i)
    passed_all h f hold = sym (p.rest f hold ∙ longer_none f (lo + i) L h)

    module _ (h : i < width) (k : L ≤ lo + i) where
      -- a length that is not in question
      pub passed_other : in_question w L ≡ false → Passed w lo width i (L + 1) x
      passed_other q = record {
        low = omega arith;
        high = omega arith;
        cell = omega (arith, p.cell, cell_more w L p.low width i, ap (λ (t : Bool). when t 1 * width) q);
        rest = λ f hold. p.rest f hold ∙ longer_on f (lo + i) L k (hold.others L i h p.low k q);
      }

      module _ (q : in_question w L ≡ true) where
        pub passed_inside : Tile w lo width → x < work_numbers
        passed_inside t = omega (arith, p.cell, row_inside w L p.low lo width t (omega arith) q)

        held : (f : ℕ → ℕ → ℕ) → Holding f w lo width → look w x ≡ f (lo + i - L) (lo + i)
        held f hold = ap (look w) p.cell ∙ hold.cells L i h p.low k q

        pub passed_cell : look w x ≤ L → Passed w lo width i (L + 1) (x + width)
        passed_cell c = record {
          low = omega arith;
          high = omega arith;
          cell = omega (arith, p.cell, cell_more w L p.low width i, ap (λ (t : Bool). when t 1 * width) q);
          rest = λ f hold. p.rest f hold ∙ longer_on f (lo + i) L k (omega (arith, held f hold));
        }

        pub passed_here : L < look w x → (f : ℕ → ℕ → ℕ) → Holding f w lo width → Exact.over (lo + i - L) (lo + i) (look w x) ≡ exact_at f (lo + i) (lo + i)
        passed_here c f hold = sym (p.rest f hold ∙ rw (held f hold) (longer_here f (lo + i) L k (omega (arith, held f hold))))

module _ (f : ℕ → ℕ → ℕ) (lo width : ℕ) where
  -- the ends from the one of the number i on
  unfoldable pub later : ℕ → Exact
  later i = exact_from f (width - i) (lo + i)

  pub later_start : exact_from f width lo ≡ later 0
  unfolding later
  later_start = let e : width - 0 ≡ width = omega arith in rw (add-zero lo, e)

  pub later_none : (i : ℕ) → width ≤ i → later i ≡ Exact.clear
  unfolding later
  later_none i h = let e : width - i ≡ 0 = omega arith in rw e

  module _ (i : ℕ) (h : i < width) where
    later_cut : later i ≡ or_else (exact_at f (lo + i) (lo + i)) (later (i + 1))
    unfolding later
    later_cut =
        let e : width - i ≡ suc (width - (i + 1)) = omega arith in
        let n : lo + (i + 1) ≡ suc (lo + i) = omega arith in
        rw (e, n)

    pub later_here : (a b v : ℕ) → Exact.over a b v ≡ exact_at f (lo + i) (lo + i) → later i ≡ Exact.over a b v
    later_here a b v e = rw (later_cut, ← e)

    pub later_on : Exact.clear ≡ exact_at f (lo + i) (lo + i) → later i ≡ later (i + 1)
    later_on e = rw (later_cut, ← e)
