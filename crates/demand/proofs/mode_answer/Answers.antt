-- The mode times are held against each other and against the field of MD; past both tests the tasks give the amount. Assumes nothing.
use mathlib.Core.Path.{◌≡◌, ◌∙◌}
use mathlib.Core.List.{List}
use Prim.Native.Nat.{ℕ, ◌+◌, ◌≤◌}
use native.Mathlib.Omega.{arith}
use lib.ListN.{length}
use Rattle.model.specs.Sheet.{module_at}
use Rattle.model.specs.Run.{mode_at}
use Rattle.format.specs.Judgement.{sheet_in}
use Rattle.place.specs.There.{ModeThere}
use Rattle.place.proofs.Counting.{some_within}
use Rattle.demand.proofs.Answers.{period_there, times_there, past_period, answer_given}
use Rattle.demand.proofs.mode_answer.Goals.{After-field-period, Else-b-a}
use Rattle.demand.proofs.mode_answer.Goals as goal

-- The field of MD is within the bytes ..
period_within : (c : Else-b-a) → c.args.p + 4 ≤ length c.args.sheet.now.bytes.now
period_within c =
    let bs : List ℕ = c.args.sheet.now.bytes.now in
    omega (arith, some_within bs c.args.sheet.now.accepted c.args.sheet.now.are_bytes c.args.p c.requires)

-- .. and is the mode period.
period_is : (c : After-field-period) (k j : ℕ) → ModeThere (sheet_in c.args.sheet.now.bytes.now) k j c.args.p
    → c.field-period.result ≡ (mode_at (module_at (sheet_in c.args.sheet.now.bytes.now) k) j).period
period_is c k j h =
    let bs : List ℕ = c.args.sheet.now.bytes.now in
    c.field-period.ensures ∙ period_there bs c.args.sheet.now.accepted c.args.sheet.now.are_bytes k j _ h

pub overflow_add-p : goal.overflow_add-p
overflow_add-p c = omega (arith, period_within (goal.at.overflow_add-p c).Else-b-a)

pub field-period-requires : goal.field-period-requires
field-period-requires c = omega (arith, period_within (goal.at.field-period-requires c).Else-b-a)

pub returns-then-period-b : goal.returns-then-period-b
returns-then-period-b c = let bs : List ℕ = c.args.sheet.now.bytes.now in
    λ k j h.
    rw c.at-then-period-b.ensures
    (past_period bs k j c.args.a c.args.b (sheet_in bs) c.args.sheet.now.accepted
    (omega (arith, period_is (goal.at.returns-then-period-b c).After-field-period k j h)))

pub tasks_demand-requires-clause-times : goal.tasks_demand-requires-clause-times
tasks_demand-requires-clause-times c = let bs : List ℕ = c.args.sheet.now.bytes.now in
    times_there bs c.args.sheet.now.accepted _ _ _ c.requires c.if-b-a.false (λ k j h. omega (arith, period_is (goal.at.tasks_demand-requires-clause-times c).After-field-period k j h))

pub returns : goal.returns
returns c = let bs : List ℕ = c.args.sheet.now.bytes.now in
    λ k j h.
    rw (c.tasks_demand.ensures k j h)
    (answer_given bs k j _ _ (sheet_in bs) c.args.sheet.now.accepted h.number h.mode c.if-b-a.false
    (omega (arith, period_is (goal.at.returns c).After-field-period k j h)))
