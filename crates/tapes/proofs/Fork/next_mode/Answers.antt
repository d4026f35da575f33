-- `next_mode` is the mode of the next state on the tape, in each of the five cases. Assumes nothing.
use mathlib.Core.Path.{◌≡◌, sym, ◌∙◌}
use Prim.Native.Nat.{ℕ}
use native.Mathlib.Omega.{arith}
use Rattle.following.specs.Follow.{head}
use Rattle.tapes.specs.States.{the}
use Rattle.tapes.specs.Forks.{AtFork, ahead}
use Rattle.tapes.proofs.Onward.{Choosing, to_low, to_ended, to_better, keeps_forced, keeps_lowest}
use Rattle.tapes.proofs.Answers.{within_listed}
use Rattle.tapes.proofs.Fork.next_mode.Goals.{After-lowest_head}
use Rattle.tapes.proofs.Fork.next_mode.Goals as goal

-- what the search found, in each module
choosing : (c : After-lowest_head) (h : ℕ) → let x = c.args.self.now in
    AtFork x (λ m. h ≡ head m (ahead x m) (the x.s) c.args.top) → AtFork x (λ m. Choosing m (the x.s) (ahead x m) c.args.top h)
choosing c h is m ok told = record {
  listed = within_listed m ok _ _ told _ c.args.self.now.within;
  is_top = c.requires.each m ok told;
  is_head = is m ok told;
}

pub returns-in_default : goal.returns-in_default
returns-in_default c m ok told = keeps_forced m ok _ _ _ _ (choosing (goal.at.returns-in_default c).After-lowest_head _ c.in_default.ensures.1 m ok told) told.modes

pub returns-then-h-k : goal.returns-then-h-k
returns-then-h-k c m ok told = to_low m ok _ _ _ _ (choosing (goal.at.returns-then-h-k c).After-lowest_head _ c.in-Some.ensures.1 m ok told) c.if-h-k.true

pub returns-then-period-d : goal.returns-then-period-d
returns-then-period-d c m ok told = let q = (told.each _ c.args.self.now.within.mode).period in
    to_ended m ok _ _ _ _ (choosing (goal.at.returns-then-period-d c).After-lowest_head _ c.in-Some.ensures.1 m ok told) (omega (arith, c.if-period-d.true))

pub returns-then-value_at-top : goal.returns-then-value_at-top
returns-then-value_at-top c m ok told = let q = (told.each _ c.args.self.now.within.mode).period in
    keeps_lowest m ok _ _ _ _ (choosing (goal.at.returns-then-value_at-top c).After-lowest_head _ c.in-Some.ensures.1 m ok told) c.if-h-k.false
    (omega (arith, c.if-period-d.false)) (sym (c.value_at.ensures m ok told) ∙ c.if-value_at-top.true)

pub returns : goal.returns
returns c m ok told = to_better m ok _ _ _ _ (choosing (goal.at.returns c).After-lowest_head _ c.in-Some.ensures.1 m ok told) (λ e. c.if-value_at-top.false (c.value_at.ensures m ok told ∙ e))
