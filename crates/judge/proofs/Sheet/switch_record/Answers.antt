-- `Sheet::switch_record` judges SW and SX. Assumes nothing.
use mathlib.Core.Path.{sym, ◌∙◌, ap, refl}
use Prim.Native.Nat.{◌<◌}
use native.Mathlib.Omega.{arith}
use borrow.Author.Tests.{le-ltb, lt-ltb}
use Rattle.model.specs.Limits.{max_modes}
use Rattle.format.specs.Record.{sw, mark_of}
use Rattle.format.specs.Rules.{counted, ruled}
use Rattle.judge.specs.Reading.{switch_of}
use Rattle.judge.specs.declared.Fault.TheVariants.{BadSwitch}
use Rattle.judge.proofs.Turns.{switch_same, target_in, over_count, out_of_rule, all_right}
use Rattle.judge.proofs.Sheet.switch_record.Goals.{Else-not-switch_keeps}
use Rattle.judge.proofs.Sheet.switch_record.Goals as goal

-- a switch that keeps the rules names one of the modes that there is room for
target_fits : (c : Else-not-switch_keeps) → c.switch_at-w.result.target < max_modes
target_fits c =
    omega (arith, c.requires.within.stated, target_in _ _ _ (sym c.switch_keeps.ensures ∙ c.if-not-switch_keeps.false))

pub returns-then-self-ge-MAX_SWITCHES : goal.returns-then-self-ge-MAX_SWITCHES
unfolding counted
returns-then-self-ge-MAX_SWITCHES c = λ rs h. over_count _ _ _ _ rs _ _ (rw (← h.switches) (le-ltb _ _ c.if-self-ge-MAX_SWITCHES.true)) c.at.ensures

pub returns-then-not-switch_keeps : goal.returns-then-not-switch_keeps
unfolding counted ruled
returns-then-not-switch_keeps c = λ rs h. rw (← c.switch_at-w.ensures) (out_of_rule _ _ _ _ rs _ _ (rw (← h.switches) (lt-ltb _ _ c.if-self-ge-MAX_SWITCHES.false)) (sym (c.switch_keeps.ensures ∙ switch_same _ _ rs h _) ∙ c.if-not-switch_keeps.true) BadSwitch refl c.at-then-not-switch_keeps.ensures)

pub bounds-self-from : goal.bounds-self-from
bounds-self-from c = omega (arith, target_fits (goal.at.bounds-self-from c).Else-not-switch_keeps, c.from.ensures)

pub returns : goal.returns
unfolding counted ruled
returns c = λ rs h. rw (← c.switch_at-w.ensures) (all_right _ _ _ rs _ (sw (switch_of c.switch_at-w.result)) (ap mark_of c.switch_at-w.ensures) c.requires (rw (← h.switches) (lt-ltb _ _ c.if-self-ge-MAX_SWITCHES.false)) (sym (c.switch_keeps.ensures ∙ switch_same _ _ rs h _) ∙ c.if-not-switch_keeps.false) h (target_fits (goal.at.returns c).Else-not-switch_keeps) (rw c.from.ensures at c.pass.ensures))
