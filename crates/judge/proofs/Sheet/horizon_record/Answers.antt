-- `Sheet::horizon_record` judges HZ. Assumes nothing.
use mathlib.Core.Path.{refl}
use native.Mathlib.Omega.{arith}
use Rattle.std.proofs.lemmas.Bool.Decides.{nat_tests}
use Rattle.format.specs.Record.{HZ, hz}
use Rattle.format.specs.Rules.{counted, ruled}
use Rattle.judge.specs.declared.Fault.TheVariants.{BadField}
use Rattle.judge.proofs.Turns.{out_of_rule, all_right}
use Rattle.judge.proofs.Sheet.horizon_record.Goals as goal

pub returns-then-not-contains : goal.returns-then-not-contains
unfolding counted ruled
returns-then-not-contains c = λ rs h. rw (← c.field-horizon.ensures) (out_of_rule _ _ _ _ rs HZ (hz c.field-horizon.result) refl (grind (arith, nat_tests)) BadField refl c.at.ensures)

pub returns : goal.returns
unfolding counted ruled
returns c = λ rs h. rw (← c.field-horizon.ensures) (all_right _ _ _ rs _ (hz c.field-horizon.result) refl c.requires refl (grind (arith, nat_tests)) h tt c.pass.ensures)
