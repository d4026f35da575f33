-- `kept_periods` makes each period by whether its mode is kept. Assumes nothing.
use Rattle.std.proofs.Common.{rules, tests, get_or, cond, false}
use Rattle.layers.specs.Step.{look}
use Rattle.layers.proofs.Making.{made}
use Rattle.emptying.proofs.kept_periods.Goals as goal

pub returns : goal.returns
returns c = let a = c.args in
    λ k h. made _ _ (λ j. cond (get_or a.kept.now j false) (look a.periods.now j) 1) _ 8 (λ i y q l m. search (rules, tests)) c.from_fn.ensures.items k 0 h
