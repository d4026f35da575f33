-- `Sheet::mode_record` judges MD. Assumes nothing.
use mathlib.Core.Path.{refl}
use native.Mathlib.Omega.{arith}
use Rattle.std.proofs.lemmas.Bool.Decides.{nat_tests}
use Rattle.format.specs.Record.{MD, md}
use Rattle.format.specs.Rules.{counted, ruled}
use Rattle.judge.specs.declared.Fault.TheVariants.{BadField}
use Rattle.judge.proofs.Turns.{out_of_rule, all_right}
use Rattle.judge.proofs.Sheet.mode_record.Goals as goal

pub returns-then-not-contains : goal.returns-then-not-contains
unfolding counted ruled
returns-then-not-contains c = λ rs h. rw (← c.field-period.ensures) (out_of_rule _ _ _ _ rs MD (md c.field-period.result) refl (grind (arith, nat_tests)) BadField refl c.at.ensures)

pub returns : goal.returns
unfolding counted ruled
returns c = λ rs h. rw (← c.field-period.ensures) (all_right _ _ _ rs _ (md c.field-period.result) refl c.requires refl (grind (arith, nat_tests)) h tt (rw c.bytes_of.ensures.0 at c.pass.ensures))
