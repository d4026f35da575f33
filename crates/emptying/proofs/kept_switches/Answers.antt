-- `kept_switches` says at each place whether its mode is kept and lists the target. Assumes nothing.
use Rattle.std.proofs.Common.{rules, tests, ◌/◌, ◌&&◌, get_or, false}
use Rattle.layers.proofs.Making.{made}
use Rattle.emptying.proofs.kept_switches.Goals as goal

pub returns : goal.returns
returns c = let a = c.args in
    λ i h. made _ _ (λ j. get_or a.kept.now (j / 8) false && get_or a.listed.now j false) _ 64 (λ j y q l m. search (rules, tests)) c.from_fn.ensures.items i false h
