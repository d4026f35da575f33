-- `Sheet::tasks_allow` is the test of the kind's rule for every task of the mode. Assumes nothing.
use mathlib.Core.Path.{refl, ◌∙◌}
use Prim.Native.Nat.{◌+◌, ◌*◌}
use native.Mathlib.Omega.{arith}
use borrow.Author.Tests.{tests}
use Rattle.std.proofs.Common.{rules}
use Rattle.std.proofs.lemmas.Iterator.{YieldsList-from_range}
use Rattle.std.proofs.lemmas.Iterator.Search.{all_from_yields_List}
use Rattle.format.specs.Record.{task_at}
use Rattle.format.specs.Rules.{kind_ruled}
use Rattle.judge.specs.Reading.{kind_of}
use Rattle.judge.proofs.Turns.{task_is, each_task}
use Rattle.judge.proofs.Sheet.tasks_allow.Goals as goal

pub returns : goal.returns
returns c =
    all_from_yields_List (λ i. kind_ruled (kind_of c.args.w.kind) c.args.self.period c.args.w.period (task_at c.args.s.now (c.args.self.from + 10 * i))) _ _ _ c.all.ensures.ran (YieldsList-from_range 0 c.from.result c.args.self.held refl (omega (arith, c.from.ensures))) (λ x b q k. search (rules, tests, task_is))
    ∙ each_task (kind_ruled (kind_of c.args.w.kind) c.args.self.period c.args.w.period) c.args.s.now c.args.self.from c.args.self.held
