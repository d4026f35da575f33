-- `states` is what the iterator adds up of the first n periods. Assumes nothing.
use Rattle.std.proofs.Common.{rules, tests, ◌≡◌, ◌∙◌, ◌≤◌, ◌*◌, ℕ, arith, take, sum_by, Fits, w16}
use Rattle.std.proofs.lemmas.Iterator.{YieldsList-from_slice, YieldsList-from_map}
use Rattle.std.proofs.lemmas.Iterator.Consumers.{sum_by_from_yields_List, fits_by_from_yields_list}
use Rattle.layers.specs.Step.{look, total}
use Rattle.layers.proofs.Sums.{sum_front, sum_most}
use Rattle.layers.proofs.states.Goals.{After-map}
use Rattle.layers.proofs.states.Goals as goal

-- the sum of the first periods is the total, and each period is below 2^16
sums : (c : After-map) → (sum_by (λ x. x) (take c.args.n c.args.periods) ≡ total c.args.periods c.args.n) × (total c.args.periods c.args.n ≤ 65535 * c.args.n)
sums c =
    let c = c in
    let low : (k : ℕ) → Fits w16 (look c.args.periods k) = λ k. search rules in
    (sum_front c.args.periods c.args.n (omega arith), sum_most (look c.args.periods) 65535 c.args.n (λ k h. omega (arith, (low k).fits)))

pub sum-requires-clause-fits : goal.sum-requires-clause-fits
sum-requires-clause-fits c =
    let first = take c.args.n c.args.periods in
    fits_by_from_yields_list (λ x. x) first c.map.result _ (YieldsList-from_map _ (λ x. x) (YieldsList-from_slice first cc) c.map.ensures.closure (λ x b q k. search (rules, tests))) (omega (arith, sums (goal.at.sum-requires-clause-fits c).After-map))

pub returns : goal.returns
returns c =
    let first = take c.args.n c.args.periods in
    let sum = sum_by_from_yields_List (λ x. x) first c.map.result _ c.sum.ensures.ran (YieldsList-from_map _ (λ x. x) (YieldsList-from_slice first cc) c.map.ensures.closure (λ x b q k. search (rules, tests))) in
    let all = sums (goal.at.returns c).After-map in
    (sum ∙ all.0, omega arith)
