-- `gains_of` is the sum of what the tasks gain, each a number of 16 bits. Assumes nothing.
use Rattle.std.proofs.Common.{refl, ℕ, ◌/◌, ◌∙◌, length, rules, tests, arith}
use Rattle.std.proofs.lemmas.Iterator.{YieldsList-from_range, YieldsList-from_map}
use Rattle.std.proofs.lemmas.Iterator.Consumers.{YieldsList-at, sum_from_yields_List, fits_from_yields_list}
use Rattle.layers.specs.Step.{due}
use Rattle.heads.proofs.Gains.{sum_range, gains_few}
use Rattle.heads.proofs.gains_of.Goals as goal

pub sum-requires-clause-fits : goal.sum-requires-clause-fits
sum-requires-clause-fits c =
    let tasks = c.args.tasks.now in
    let n : ℕ = length tasks / 4 in
    fits_from_yields_list c.map.result _
    (YieldsList-from_map _ (due tasks c.args.l c.args.d) (YieldsList-at c.map.ensures.source (YieldsList-from_range 0 n n refl (omega arith))) c.map.ensures.closure (λ x r q k. search (rules, tests)))
    (omega (arith, sum_range (due tasks c.args.l c.args.d) n, gains_few tasks c.args.l c.args.d n (λ x. omega (arith, c.type_inv.tasks x))))

pub returns : goal.returns
returns c =
    let tasks = c.args.tasks.now in
    let n : ℕ = length tasks / 4 in
    sum_from_yields_List c.map.result _ c.sum.ensures.ran
    (YieldsList-from_map _ (due tasks c.args.l c.args.d) (YieldsList-at c.map.ensures.source (YieldsList-from_range 0 n n refl (omega arith))) c.map.ensures.closure (λ x r q k. search (rules, tests)))
    ∙ sum_range (due tasks c.args.l c.args.d) n
