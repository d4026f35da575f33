-- `add_lengths` goes through the lengths: so far the rows up to l have their figures, the module has come to l ticks, and the next row is the one after
-- theirs. Assumes nothing.
use mathlib.Core.Path.{◌≡◌, refl, ◌∙◌}
use Prim.Native.Nat.{◌<◌}
use native.Mathlib.Omega.{arith}
use Rattle.cells.proofs.Rows.{rows_most}
use Rattle.tiles.proofs.Steps.{progress_kept}
use Rattle.tiles.proofs.Cells.{module_start, module_rest, row_fits, module_more}
use Rattle.tiles.proofs.add_lengths.Goals as goal

pub loop-l-init : goal.loop-l-init
loop-l-init c = (omega (arith, rows_most c.args.work.now 0), refl, module_start _ _ _ _ _, c.requires.3)

pub add_row-row-requires : goal.add_row-row-requires
add_row-row-requires c = let p = c.requires in
    let l = c.loop-l in
    let new = c.next_figures.ensures in
    let short : l.l < 2000 = omega arith in (
      omega arith,
      omega (arith, rows_most c.args.work.now l.l),
      omega arith,
      row_fits _ _ _ _ _ _ _ _ _ _ l.invariant.2 new l.invariant.1 short _ l.invariant.0 p.2 p.0 p.1 (omega arith),
    )

pub loop-l-preserved : goal.loop-l-preserved
loop-l-preserved c = let l = c.loop-l in
    let new = c.next_figures.ensures in
    let row = c.add_row-row.ensures in
    let short : l.l < 2000 = omega arith in
    let more = module_more _ _ _ _ _ _ _ _ _ _ l.invariant.2 new l.invariant.1 short _ l.invariant.0 _ _ row in
    (more.0, new.size ∙ l.invariant.1, more.1, λ m ok told. progress_kept (omega arith) row.within (new.each m ok told))

pub returns : goal.returns
returns c = let all : c.loop-l.l ≡ c.args.stop = omega arith in
    module_rest _ _ _ _ _ _ _ _ (rw all c.requires.4) c.loop-l.invariant.2
