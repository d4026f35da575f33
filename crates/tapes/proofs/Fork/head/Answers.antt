-- `head` is the head of a mode that opens: the step to it then answers its first state. Assumes nothing.
use mathlib.Core.Path.{◌≡◌, sym, ◌∙◌}
use native.Mathlib.Omega.{arith}
use borrow.Author.Rules.{rules}
use Rattle.following.specs.Follow.{opens}
use Rattle.tapes.specs.States.{the}
use Rattle.tapes.specs.Forks.{AtFork}
use Rattle.tapes.proofs.Answers.{opens_asked}
use Rattle.tapes.proofs.Fork.head.Goals.{After-is_some_and}
use Rattle.tapes.proofs.Fork.head.Goals as goal

-- what is asked of the step
asked : (c : After-is_some_and) → let x = c.args.self.now in
    AtFork x (λ m. c.is_some_and.result ≡ opens m (the x.s) c.args.j)
asked c m ok told = opens_asked m ok _ _ told _ c.args.self.now.within _ _ _ (c.step-next.ensures m _ ok told) (search rules)

pub returns-then-is_some_and : goal.returns-then-is_some_and
returns-then-is_some_and c = let r = c.head.ensures in
    let x = c.args.self.now in (
      r.1,
      λ m ok told.
          let j = c.requires.1 in
          let o = sym (asked (goal.at.returns-then-is_some_and c).After-is_some_and m ok told) ∙ c.if-is_some_and.true in
          rw (o, r.0 ∙ x.heads.filled m ok told x.t (omega arith) x.inside c.args.j (omega (arith, told.modes))),
    )

pub returns-else-is_some_and : goal.returns-else-is_some_and
returns-else-is_some_and c = (tt, λ m ok told. let o = sym (asked (goal.at.returns-else-is_some_and c).After-is_some_and m ok told) ∙ c.if-is_some_and.false in rw o)
