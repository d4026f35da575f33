-- `Sheet::module_record` judges ML. Assumes nothing.
use mathlib.Core.Path.{refl}
use native.Mathlib.Omega.{arith}
use Rattle.std.proofs.lemmas.Bool.Decides.{nat_tests}
use borrow.Author.Tests.{le-ltb, lt-ltb}
use Rattle.format.specs.Record.{ML, ml}
use Rattle.format.specs.Rules.{counted, ruled}
use Rattle.judge.specs.declared.Fault.TheVariants.{BadField}
use Rattle.judge.proofs.Turns.{over_count, out_of_rule, all_right}
use Rattle.judge.proofs.Sheet.module_record.Goals as goal

pub returns-then-self-ge-MAX_MODULES : goal.returns-then-self-ge-MAX_MODULES
unfolding counted
returns-then-self-ge-MAX_MODULES c = λ rs h. over_count _ _ _ _ rs _ _ (rw (← h.modules) (le-ltb _ _ c.if-self-ge-MAX_MODULES.true)) c.at.ensures

pub returns-then-not-contains : goal.returns-then-not-contains
unfolding counted ruled
returns-then-not-contains c = λ rs h. rw (← c.field-stated.ensures) (out_of_rule _ _ _ _ rs ML (ml c.field-stated.result) (rw (← h.modules) (lt-ltb _ _ c.if-self-ge-MAX_MODULES.false)) (grind (arith, nat_tests)) BadField refl c.at-then-not-contains.ensures)

pub returns : goal.returns
unfolding counted ruled
returns c = λ rs h. rw (← c.field-stated.ensures) (all_right _ _ _ rs _ (ml c.field-stated.result) refl c.requires (rw (← h.modules) (lt-ltb _ _ c.if-self-ge-MAX_MODULES.false)) (grind (arith, nat_tests)) h tt c.pass.ensures)
