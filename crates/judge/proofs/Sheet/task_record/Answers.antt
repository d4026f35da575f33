-- `Sheet::task_record` judges TK. Assumes nothing.
use mathlib.Core.Path.{◌≡◌, refl, sym, ◌∙◌}
use mathlib.Core.Bool.{true}
use mathlib.Core.List.{List}
use native.Mathlib.Omega.{arith}
use borrow.Author.Tests.{lt-ltb}
use Rattle.std.proofs.lemmas.Bool.Decides.{nat_tests}
use Rattle.format.specs.Record.{TK, Record, tk}
use Rattle.format.specs.Rules.{counted, ruled}
use Rattle.place.specs.Numbers.{task_of}
use Rattle.judge.specs.Reading.{Reads}
use Rattle.judge.specs.declared.Fault.TheVariants.{BadField}
use Rattle.judge.proofs.Turns.{over_count, out_of_rule, all_right}
use Rattle.judge.proofs.Sheet.task_record.Goals.{Else-self-ge-MAX_TASKS, Then-self-ge-MAX_MODE_TASKS}
use Rattle.judge.proofs.Sheet.task_record.Goals as goal

-- the counts are right
in_count : (c : Else-self-ge-MAX_TASKS) (rs : List Record) → Reads c.args.s.now c.args.self.now rs → counted TK rs ≡ true
unfolding counted
in_count c rs h = rw (← h.held, ← h.tasks, lt-ltb _ _ c.if-self-ge-MAX_MODE_TASKS.false) (lt-ltb _ _ c.if-self-ge-MAX_TASKS.false)

pub returns-then-self-ge-MAX_MODE_TASKS : goal.returns-then-self-ge-MAX_MODE_TASKS
unfolding counted
returns-then-self-ge-MAX_MODE_TASKS c = λ rs h. over_count _ _ _ _ rs _ _ (rw (← h.held, ← h.tasks) (grind (arith, nat_tests))) c.at.ensures

pub returns-then-not-task_keeps : goal.returns-then-not-task_keeps
unfolding ruled
returns-then-not-task_keeps c = λ rs h. rw (← c.task_at-k.ensures) (out_of_rule _ _ _ _ rs TK _ (in_count (goal.at.returns-then-not-task_keeps c).Else-self-ge-MAX_TASKS rs h) (rw (← h.period) (sym c.task_keeps.ensures ∙ c.if-not-task_keeps.true)) BadField refl c.at-then-not-task_keeps.ensures)

pub returns : goal.returns
unfolding ruled
returns c = λ rs h. rw (← c.task_at-k.ensures) (all_right _ _ _ rs _ (tk (task_of c.task_at-k.result)) refl c.requires (in_count (goal.at.returns c).Else-self-ge-MAX_TASKS rs h) (rw (← h.period) (sym c.task_keeps.ensures ∙ c.if-not-task_keeps.false)) h c.task_at-k.ensures c.pass.ensures)
