-- `width_at` widens a tile of one end while the cells have room for one more. Assumes nothing.
use mathlib.Core.Path.{◌≡◌, ap}
use mathlib.Core.Bool.{Bool}
use Prim.Native.Nat.{◌+◌}
use native.Mathlib.Omega.{arith}
use Rattle.model.specs.Lists.{when}
use Rattle.cells.specs.Cells.{in_question}
use Rattle.cells.proofs.Widths.{widened_one, widened_more}
use Rattle.cells.proofs.width_at.Goals.{then-in_question, else-in_question}
use Rattle.cells.proofs.width_at.Goals as goal

pub loop-width-init : goal.loop-width-init
loop-width-init c = let p = c.requires in widened_one _ _ _ p.2 _ p.3 p.0 p.1 c.rows_to-count.ensures

pub loop-width-preserved : goal.loop-width-preserved
loop-width-preserved c =
    let one : c.if-in_question.count ≡ c.loop-width.count + when (in_question c.args.work.now (c.args.lo + c.loop-width.width)) 1 =
    elim c.if-in_question.branch [
      | then-in_question w ↦ omega (arith, ap (λ (t : Bool). when t 1) w.if-in_question.ensures)
      | else-in_question w ↦ omega (arith, ap (λ (t : Bool). when t 1) w.if-in_question.ensures)
    ] in
    widened_more _ _ _ c.requires.2 _ _ _ c.loop-width.invariant (omega arith) (omega arith) one c.if-count-width-gt-CELL_NUMBERS.false
