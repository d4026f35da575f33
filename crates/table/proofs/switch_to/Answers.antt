-- The search finds the first switch that names the mode. Assumes nothing.
use mathlib.Core.Path.{◌≡◌}
use mathlib.Core.List.{List}
use Prim.Native.Nat.{ℕ, ◌+◌, ◌*◌, ◌≤◌}
use lib.ListN.{length}
use borrow.Author.Tests.{tests}
use Rattle.std.proofs.Common.{rules}
use Rattle.std.proofs.lemmas.Iterator.{serves_from_Range, first_from_Range}
use Rattle.format.specs.Record.{field_at}
use Rattle.place.proofs.Counting.{switches_within}
use Rattle.table.proofs.Switching.{first_found}
use Rattle.table.proofs.switch_to.Goals as goal

pub find-requires-clause-callable : goal.find-requires-clause-callable
find-requires-clause-callable c = let bs : List ℕ = c.args.sheet.now.bytes.now in
    let within : c.switches_from-q.result + 6 * c.switches_at.result ≤ length bs = switches_within bs c.args.sheet.now.accepted c.args.sheet.now.are_bytes c.args.p c.requires _ _ c.switches_from-q.ensures c.switches_at.ensures in
    serves_from_Range (λ x s r. search rules) (λ x low high. search rules)

pub returns : goal.returns
returns c = let bs : List ℕ = c.args.sheet.now.bytes.now in
    let q : ℕ = c.switches_from-q.result in
    λ k j h. first_found bs c.args.sheet.now.accepted c.args.sheet.now.are_bytes c.args.p q _ c.args.t k j h (c.switches_from-q.ensures k j h) (c.switches_at.ensures k j h) c.find.result
    (first_from_Range _ _ _ _ (λ i. field_at bs (q + 6 * i + 2) ≡ c.args.t) (λ i. field_at bs (q + 6 * i + 2) ≡ c.args.t → ⊥) c.find.ensures.ran (λ x s r. search (rules, tests)) (λ x s r. search (rules, tests)))
