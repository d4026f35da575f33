-- `rows_to` counts the lengths from 1 on that are in question. Assumes nothing.
use mathlib.Core.Path.{◌∙◌}
use mathlib.Core.Bool.{cond}
use Prim.Native.Nat.{◌+◌}
use Rattle.std.proofs.Common.{rules, tests}
use Rattle.cells.specs.Cells.{in_question}
use Rattle.cells.proofs.Rows.{rows_counted}
use Rattle.cells.proofs.rows_to.Goals as goal

pub returns : goal.returns
returns c =
    let w = c.args.work.now in
    let ran = c.count.ensures.runs in
    let of = c.filter.ensures.runs ran.0 ran.0.seen ran.1 in
    ran.3 ∙ of.2.5 (λ a L. a + cond (in_question w L) 1 0) (λ x b f n called. search (rules, tests)) ∙ rows_counted w of.0 c.args.n (search rules) (search rules) (search rules) (of.2.0 ∙ ran.2)
