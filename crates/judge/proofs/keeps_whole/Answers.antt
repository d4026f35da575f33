-- `keeps_whole` is the test of the multiples up to the mode period. Assumes nothing.
use mathlib.Core.Path.{◌∙◌, ap, refl}
use mathlib.Core.Bool.{not}
use Prim.Native.Nat.{suc, ◌*◌, ◌/◌}
use native.Mathlib.Numerals.{add-one}
use native.Mathlib.Omega.{arith}
use borrow.Author.Tests.{tests}
use Rattle.std.proofs.Common.{rules}
use Rattle.std.proofs.lemmas.Iterator.{YieldsList-from_range}
use Rattle.std.proofs.lemmas.Iterator.Search.{any_from_yields_List}
use Rattle.place.specs.Numbers.{task_of}
use Rattle.format.specs.Rules.{splits}
use Rattle.judge.proofs.Ranges.{any_number}
use Rattle.judge.proofs.keeps_whole.Goals as goal

pub returns : goal.returns
returns c =
    ap not (any_from_yields_List (λ j. splits (task_of c.args.k) (suc j * c.args.p)) _ _ _ c.any.ensures.ran (YieldsList-from_range 0 _ (c.args.mode / c.args.p) refl (omega arith)) (λ x b q k. search (rules, tests, add-one))
    ∙ any_number (λ j. splits (task_of c.args.k) (suc j * c.args.p)) (c.args.mode / c.args.p))
