-- `is_reached` looks for a mode that the row names and that lists t. Assumes nothing.
use Rattle.std.proofs.Common.{rules, tests, ◌∙◌, ◌+◌, ◌*◌, ◌&&◌, false, get_or, arith}
use Rattle.std.proofs.lemmas.Iterator.{YieldsList-from_range}
use Rattle.std.proofs.lemmas.Iterator.Search.{any_from_yields_List}
use Rattle.reach.proofs.Rows.{search_all}
use Rattle.reach.proofs.is_reached.Goals as goal

pub returns-else-row-t : goal.returns-else-row-t
returns-else-row-t c = let a = c.args in
    rw c.if-row-t.false (any_from_yields_List (λ k. get_or a.row.now k false && get_or a.listed.now (8 * k + a.t) false) _ _ _ c.any.ensures.ran (YieldsList-from_range 0 a.modes a.modes (cc) (omega arith)) (λ x b q k. search (rules, tests)) ∙ search_all a.listed.now a.modes a.row.now a.t)
