-- `switch` offers a target's head where the target is listed. Assumes nothing.
use Rattle.std.proofs.Common.{rules, tests}
use mathlib.Core.Path.{◌≡◌, sym, ◌∙◌}
use Prim.Native.Nat.{max}
use native.Mathlib.Nat.{mod-lt}
use Rattle.layers.proofs.Walks.{changed_moved, moved_none, offer_on, offer_off, offer_not}
use Rattle.layers.proofs.switch.Goals as goal

pub nonzero_rem-n : goal.nonzero_rem-n
nonzero_rem-n c = c.requires c.if-listed.true

pub change-requires-clause-start_lt_every : goal.change-requires-clause-start_lt_every
change-requires-clause-start_lt_every c = mod-lt _ (c.requires c.if-listed.true)

pub returns-then-listed : goal.returns-then-listed
returns-then-listed c = let listed = c.if-listed.true in
    changed_moved _ c.change.ensures (λ x v y e p. let top : y ≡ max v c.args.head = search (rules, tests) in top ∙ sym (offer_on _ _ _ _ listed x v e)) (offer_off _ _ _ _ listed)

pub returns-else-listed : goal.returns-else-listed
returns-else-listed c = moved_none _ _ (offer_not _ _ _ _ c.if-listed.false)
