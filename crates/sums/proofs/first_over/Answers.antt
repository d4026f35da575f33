-- `first_over` finds the first length that its sum exceeds. Assumes nothing.
use Rattle.std.proofs.Common.{Some, None}
use Prim.Native.Nat.{ℕ, ◌+◌, ◌≤◌, ◌<◌}
use native.Mathlib.Omega.{arith}
use borrow.Author.Rules.{rules}
use borrow.Author.Tests.{tests}
use Rattle.std.proofs.lemmas.Iterator.{first_from_Range}
use Rattle.layers.specs.Step.{look}
use Rattle.sums.proofs.Lengths.{Within, none_over, first_over}
use Rattle.sums.proofs.first_over.Goals.{In_ok-l}
use Rattle.sums.proofs.first_over.Goals as goal

-- the length that is found exceeds itself by its sum, and no earlier one does
found : (c : In_ok-l) → let f = look c.args.work.now in let l = c.in_ok-l.l in (1 ≤ l) × (l < c.args.horizon + 1) × (l < f l) × Within f 1 l
found c =
    let f : ℕ → ℕ = look c.args.work.now in
    let l : ℕ = c.in_ok-l.l in
    first_from_Range _ c.find.new.self _ (Some l) (λ k. k < f k) (λ k. f k ≤ k) c.in_ok-l.ensures.ran (λ x q k. search (rules, tests)) (λ x q k. search (rules, tests))

pub overflow_cast-result : goal.overflow_cast-result
overflow_cast-result c = record { fits = omega (arith, found (goal.at.overflow_cast-result c).In_ok-l) }

pub returns : goal.returns
returns c = first_over _ _ _ (found (goal.at.returns c).In_ok-l)

pub returns-in_err-l : goal.returns-in_err-l
returns-in_err-l c =
    let f : ℕ → ℕ = look c.args.work.now in
    rw c.from_residual.ensures (none_over f c.args.horizon (first_from_Range _ c.find.new.self _ None (λ k. k < f k) (λ k. f k ≤ k) c.in_err-l.ensures.ran (λ x q k. search (rules, tests)) (λ x q k. search (rules, tests))))
