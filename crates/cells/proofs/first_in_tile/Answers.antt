-- `first_in_tile` passes the ends at which no interval is over. Assumes nothing.
use mathlib.Core.Path.{sym, ◌∙◌}
use Rattle.cells.proofs.Searching.{later_start, later_none, later_here, later_on}
use Rattle.cells.proofs.first_in_tile.Goals as goal

pub loop-i-init : goal.loop-i-init
loop-i-init c = λ f hold. later_start f _ _

pub returns-in-Some : goal.returns-in-Some
returns-in-Some c = λ f hold. sym (c.loop-i.invariant f hold ∙ later_here f _ _ _ c.loop-i-test.true _ _ _ (c.in-Some.ensures f hold))

pub loop-i-preserved : goal.loop-i-preserved
loop-i-preserved c = λ f hold. c.loop-i.invariant f hold ∙ later_on f _ _ _ c.loop-i-test.true (c.in_default.ensures f hold)

pub returns : goal.returns
returns c = λ f hold. sym (c.loop-i.invariant f hold ∙ later_none f _ _ _ c.loop-i-test.false)
