-- Two results that meet a contract are the same, those of `add_module` but for the layer and the marks. Assumes nothing.
use mathlib.Core.Path.{◌≡◌, sym, ap, ◌∙◌}
use mathlib.Core.List.{List}
use Prim.Native.Nat.{ℕ, zero, suc, ◌+◌, ◌-◌, ◌*◌, ◌/◌, ◌%◌, ◌^◌, ◌≤◌, ◌<◌}
use native.Mathlib.Nat.{mul-zero, mod-lt, div-add-mod', div-lt_iff_lt-mul}
use native.Mathlib.Decide.{dec_lt}
use native.Mathlib.Omega.{arith}
use lib.ListN.{take, drop, length-take, get_or-eq_default}
use lib.Seq.{ext_get_or}
use Rattle.layers.specs.declared.Shape.{Shape}
use Rattle.layers.specs.Step.{look}
use Rattle.layers.specs.Layer.{Tells}
use Rattle.layers.proofs.Unique.{cleared_unique}
use Rattle.memory.specs.Map.{layer_numbers, mark_numbers, layer_from, marks_from, cells_from, marks_part}
use Rattle.marks.proofs.Unique.{Small, entered_unique}
use Rattle.cells.specs.Cells.{rows, cell_at}
use Rattle.tiles.specs.Tiles.{Within, Begun, ModuleAdded}
use Rattle.tiles.proofs.Parts.{part_look}
use Rattle.tiles.proofs.Rows.{row_of}

-- what two memories hold that agree in a part
part_at : (a p : ℕ) (u v : List ℕ) (x : ℕ) → a ≤ x → x < a + p → look (take p (drop a u)) (x - a) ≡ look (take p (drop a v)) (x - a) → look u x ≡ look v x
part_at a p u v x low high e =
    let place : a + (x - a) ≡ x = omega arith in
    rw place at (sym (part_look a p u (x - a) (omega arith)) ∙ e ∙ part_look a p v (x - a) (omega arith))

marks_small : (u : List ℕ) → Small u → Small (marks_part u)
marks_small u small d = pick (dec_lt d mark_numbers)
  where
    pick : Dec (d < mark_numbers) → look (marks_part u) d < 2 ^ 32
    pick (yes h) = rw (part_look marks_from mark_numbers u d h) (small (marks_from + d))
    pick (no h) = rw (get_or-eq_default (marks_part u) 0 {n = d} (omega (arith, length-take mark_numbers (drop marks_from u)))) (omega arith)

-- begin
pub begun_unique : {s : Shape} {last : ℕ} {w u v numbers : List ℕ} → Tells s numbers → Small u → Small v → Begun s last w u → Begun s last w v → u ≡ v
begun_unique {s} {last} {w} {u} {v} t small small' h h' = ext_get_or 0 u v (h.within.len ∙ sym h'.within.len) (λ x l. pick x (dec_lt x layer_from) (dec_lt x marks_from) (dec_lt x cells_from))
  where
    marks : marks_part u ≡ marks_part v
    marks = entered_unique t (marks_small u small) (marks_small v small') h.marks h'.marks

    pick : (x : ℕ) → Dec (x < layer_from) → Dec (x < marks_from) → Dec (x < cells_from) → look u x ≡ look v x
    pick x (yes a) b c = h.within.below x a ∙ sym (h'.within.below x a)
    pick x (no a) (yes b) c = part_at layer_from layer_numbers u v x (omega arith) b (ap (λ (p : List ℕ). look p (x - layer_from)) (cleared_unique h.layer h'.layer))
    pick x (no a) (no b) (yes c) = part_at marks_from mark_numbers u v x (omega arith) c (ap (λ (p : List ℕ). look p (x - marks_from)) marks)
    pick x (no a) (no b) (no c) = h.within.above x (omega arith) ∙ sym (h'.within.above x (omega arith))

-- add_module
pub module_unique : {s : Shape} {lo width n : ℕ} {w u v numbers : List ℕ} → Tells s numbers → ModuleAdded s numbers lo width n w u → ModuleAdded s numbers lo width n w v
    → Within layer_from cells_from u v
module_unique {s} {lo} {width} {n} {w} {u} {v} t h h' = record {
  len = h'.within.len ∙ sym h.within.len;
  below = λ x l. h'.within.below x l ∙ sym (h.within.below x l);
  above = λ x l. pick x l (dec_lt x (cells_from + rows w n * width));
}
  where
    cell : (d : ℕ) → d < rows w n * width → look v (cells_from + d) ≡ look u (cells_from + d)
    cell d l =
        let wide : 0 < width = some width l in
        let (L, one, most, asked, row) = row_of w n (d / width) ((div-lt_iff_lt-mul wide).1 l) in
        let inside : d % width < width = mod-lt d wide in
        let place : cell_at w width L (d % width) ≡ cells_from + d = rw row (omega (arith, div-add-mod' d width)) in
        rw place at (h'.cells t.owner t.rule t.told L (d % width) one most asked inside ∙ sym (h.cells t.owner t.rule t.told L (d % width) one most asked inside))
      where
        some : (width : ℕ) → d < rows w n * width → 0 < width
        some zero l = absurd (omega (arith, mul-zero (rows w n)))
        some (suc k) l = omega arith

    pick : (x : ℕ) → cells_from ≤ x → Dec (x < cells_from + rows w n * width) → look v x ≡ look u x
    pick x l (yes a) = let place : cells_from + (x - cells_from) ≡ x = omega arith in rw place at (cell (x - cells_from) (omega arith))
    pick x l (no a) = h'.within.above x (omega arith) ∙ sym (h.within.above x (omega arith))
