-- `State::step` answers the next state in the mode asked for, or that there is none. Assumes nothing.
use Rattle.layers.proofs.Layers.{told_ready}
use Rattle.tapes.proofs.Answers.{goes_over}
use Rattle.tapes.proofs.State.step.Goals as goal

pub is_open-requires : goal.is_open-requires
is_open-requires c = let p = c.requires in
    let t = p.0.1 in
    ((told_ready t.owner t.rule _ _ t.told).each _ p.1.mode).switches _ p.2

pub returns-then-to-self : goal.returns-then-to-self
returns-then-to-self c = λ m numbers ok told.
    let p = c.requires in
    rw c.then_some.ensures (goes_over m ok _ _ told _ p.1 _ _ c.is_open.ensures c.if-to-self.true p.2)
