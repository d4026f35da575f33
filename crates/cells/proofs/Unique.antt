-- Each result is the only one that meets its contract. Assumes nothing.
use mathlib.Core.Path.{◌≡◌, sym, ◌∙◌}
use mathlib.Core.List.{List}
use Prim.Native.Nat.{ℕ, ◌+◌, ◌-◌, ◌<◌}
use native.Mathlib.Decide.{dec_lt}
use native.Mathlib.Omega.{arith}
use lib.Seq.{ext_get_or}
use Rattle.model.specs.Lists.{when}
use Rattle.model.specs.Limits.{work_numbers}
use Rattle.model.specs.Verdict.{exact_from}
use Rattle.memory.specs.Map.{cells_from}
use Rattle.layers.specs.Step.{look}
use Rattle.std.specs.Prelude.{Option, Some, None}
use Rattle.cells.specs.declared.Interval.{Interval}
use Rattle.cells.specs.Cells.{in_question, cell_at, Holding, found_of, CellsCleared}

-- clear_cells
pub cells_unique : {w u v : List ℕ} → CellsCleared w u → CellsCleared w v → u ≡ v
cells_unique {w} {u} {v} h h' = ext_get_or 0 u v (h.len ∙ sym h'.len) (λ x l. pick x (dec_lt x cells_from) (dec_lt x work_numbers))
  where
    pick : (x : ℕ) → Dec (x < cells_from) → Dec (x < work_numbers) → look u x ≡ look v x
    pick x (yes a) b = h.others x a ∙ sym (h'.others x a)
    pick x (no a) (yes b) = h.cells x (omega arith) b ∙ sym (h'.cells x (omega arith) b)
    pick x (no a) (no b) = h.above x (omega arith) ∙ sym (h'.above x (omega arith))

-- the cells hold some f: what stands in the cell of the interval, and 0 where there is none
module _ (w : List ℕ) (lo width : ℕ) where
  abbrev held : ℕ → ℕ → ℕ
  held a b = when (in_question w (b - a)) (look w (cell_at w width (b - a) (b - lo)))

  held_holding : Holding held w lo width
  held_holding = record {
    cells = λ L i h some most q. let l : lo + i - (lo + i - L) ≡ L = omega arith in let e : lo + i - lo ≡ i = omega arith in rw (l, e, q);
    others = λ L i h some most q. let l : lo + i - (lo + i - L) ≡ L = omega arith in rw (l, q) (omega arith);
  }

-- what a search says that has found something, or nothing
pub found_injective : (r r' : Option Interval) → found_of r ≡ found_of r' → r ≡ r'
found_injective None None e = cc
found_injective None (Some x) e = cc
found_injective (Some x) None e = cc
found_injective (Some x) (Some y) e =
    let start : x.start ≡ y.start = cc in
    let end : x.end ≡ y.end = cc in
    let demand : x.demand ≡ y.demand = cc in
    λ i. Some (record { start = start i; end = end i; demand = demand i })

-- first_in_tile
pub found_unique : (w : List ℕ) (lo width : ℕ) (r r' : Option Interval) → ((f : ℕ → ℕ → ℕ) → Holding f w lo width → found_of r ≡ exact_from f width lo)
    → ((f : ℕ → ℕ → ℕ) → Holding f w lo width → found_of r' ≡ exact_from f width lo) → r ≡ r'
found_unique w lo width r r' h h' =
    let holds : Holding (held w lo width) w lo width = held_holding w lo width in
    found_injective r r' (h (held w lo width) holds ∙ sym (h' (held w lo width) holds))
