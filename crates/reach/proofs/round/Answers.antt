-- `round` asks of each mode of the module whether it is reached. Assumes nothing.
use Rattle.std.proofs.Common.{rules, tests, ◌&&◌, false, ltb}
use Rattle.layers.proofs.Making.{made}
use Rattle.reach.specs.Names.{in_round}
use Rattle.reach.proofs.Rows.{names_made}
use Rattle.reach.proofs.round.Goals as goal

pub returns : goal.returns
returns c = let a = c.args in
    names_made c.from_fn.ensures.items.long (λ t h. made _ _ (λ t. ltb t a.modes && in_round a.listed.now a.modes a.row.now t) _ 8 (λ i y q l m. search (rules, tests)) c.from_fn.ensures.items t false h) c.requires
