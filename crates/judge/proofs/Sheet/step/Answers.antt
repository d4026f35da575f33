-- `Sheet::step` tests one record. Assumes nothing.
use mathlib.Core.Path.{sym, ◌∙◌, ap}
use native.Mathlib.Omega.{arith}
use Rattle.std.specs.Prelude.{Err}
use Rattle.format.specs.Refusal.{Whole}
use Rattle.judge.specs.Reading.{marked, found}
use Rattle.judge.proofs.Turns.{no_bytes, no_mark, cut_short, out_of_order, in_order}
use Rattle.judge.proofs.Sheet.step.Goals.{Else-s-end}
use Rattle.judge.proofs.Sheet.step.Goals as goal

-- the record of the mark that is found is whole
is_whole : (c : Else-s-end) → Whole c.args.s.now c.args.self.now.at (marked c.in-Some.m)
is_whole c = record { mark = sym c.mark_at.ensures ∙ ap found c.in-Some.is; fits = omega arith }

pub returns-then-s-self : goal.returns-then-s-self
returns-then-s-self c = λ rs h. no_bytes _ _ _ _ rs c.if-s-self.true c.at.ensures

pub returns-in_default : goal.returns-in_default
returns-in_default c = λ rs h. no_mark _ _ _ _ rs c.if-s-self.false (sym c.mark_at.ensures ∙ ap found c.in_default.is) c.at-in_default.ensures

pub returns-then-s-end : goal.returns-then-s-end
returns-then-s-end c = λ rs h. cut_short _ _ _ _ rs _ c.if-s-self.false (sym c.mark_at.ensures ∙ ap found c.in-Some.is) (omega arith) c.at-then-s-end.ensures

pub returns-then-not-in_order : goal.returns-then-not-in_order
returns-then-not-in_order c = λ rs h. out_of_order _ _ _ _ rs _ (is_whole (goal.at.returns-then-not-in_order c).Else-s-end) h (ap Err c.at-then-not-in_order.ensures) (sym c.in_order.ensures ∙ c.if-not-in_order.true)

pub returns : goal.returns
returns c = λ rs h. in_order _ _ _ _ rs _ (is_whole (goal.at.returns c).Else-s-end) h (sym c.in_order.ensures ∙ c.if-not-in_order.false) (c.judge_fields.ensures rs h)
