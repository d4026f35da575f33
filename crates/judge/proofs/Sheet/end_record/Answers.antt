-- `Sheet::end_record` judges EN. Assumes nothing.
use mathlib.Core.Path.{refl}
use borrow.Author.Tests.{eq-eqb, ne_eqb}
use Rattle.format.specs.Record.{EN, en}
use Rattle.format.specs.Rules.{counted, ruled}
use Rattle.judge.specs.declared.Fault.TheVariants.{BadEnd}
use Rattle.judge.proofs.Turns.{out_of_rule, all_right}
use Rattle.judge.proofs.Sheet.end_record.Goals as goal

pub returns-then-before-self : goal.returns-then-before-self
unfolding counted ruled
returns-then-before-self c = λ rs h. rw (← c.field-before.ensures) (out_of_rule _ _ _ _ rs EN (en c.field-before.result) refl (rw (← h.records) (ne_eqb _ _ c.if-before-self.true)) BadEnd refl c.at.ensures)

pub returns : goal.returns
unfolding counted ruled
returns c = λ rs h. rw (← c.field-before.ensures) (all_right _ _ _ rs _ (en c.field-before.result) refl c.requires refl (rw (← h.records) (eq-eqb _ _ c.if-before-self.false)) h tt c.pass.ensures)
