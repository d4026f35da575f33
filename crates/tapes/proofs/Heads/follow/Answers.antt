-- `follow` writes the tape: the bytes below t, and the tape from the state at tick t, are the tape. Assumes nothing.
use mathlib.Core.Path.{◌∙◌, ap}
use native.Mathlib.Omega.{arith}
use Rattle.model.specs.Run.{gain}
use Rattle.tapes.proofs.Answers.{answered}
use Rattle.tapes.proofs.Following.{Gained, following_end, following_more, gain_below, top_is, mode_below}
use Rattle.tapes.proofs.Heads.follow.Goals.{After-gain_at-v}
use Rattle.tapes.proofs.Heads.follow.Goals as goal

-- what is known once the gain is
gained : (c : After-gain_at-v) → let a = c.args in
    let l = c.loop-t in
    Gained a.self.now.shape.now a.self.now.numbers.now a.self.now.a a.self.now.b a.tape.now l.tape l.s l.v l.t c.gain_at-v.result
gained c = record {
  now = c.loop-t.invariant;
  inside = c.loop-t-test.true;
  gains = λ m ok told. c.gain_at-v.ensures.1 m ok told ∙ ap (gain m _ 0) c.counted_at-l.ensures;
}

pub overflow_sub-v : goal.overflow_sub-v
overflow_sub-v c = gain_below _ _ _ _ c.requires.0 _ _ _ _ _ _ (gained (goal.at.overflow_sub-v c).After-gain_at-v)

pub next_mode-to-requires-clause-each : goal.next_mode-to-requires-clause-each
next_mode-to-requires-clause-each c = top_is _ _ _ _ c.requires.0 _ _ _ _ _ _ (gained (goal.at.next_mode-to-requires-clause-each c).After-gain_at-v)

pub step-requires : goal.step-requires
step-requires c = let p = c.requires in
    ((_, p.0), c.loop-t.invariant.within, mode_below _ _ _ _ p.0 _ _ _ _ _ _ (gained (goal.at.step-requires c).After-gain_at-v) _ c.next_mode-to.ensures)

pub loop-t-preserved : goal.loop-t-preserved
loop-t-preserved c = let p = c.requires in
    following_more _ _ _ _ p.0 _ _ _ _ _ _ (gained (goal.at.loop-t-preserved c).After-gain_at-v) _ c.next_mode-to.ensures _
    (λ m n ok told u next e. rw c.unwrap_or-s.ensures (answered m ok _ _ told _ c.loop-t.invariant.within _ _ u (c.step.ensures m n ok told) next e)) p.1

pub returns : goal.returns
returns c = following_end _ _ _ _ c.requires.0 _ _ _ _ _ (omega arith) c.loop-t.invariant
