-- `lowest_head` finds the lowest mode that opens and has the top. Assumes nothing.
use mathlib.Core.Bool.{true, false}
use borrow.Author.Rules.{rules}
use Rattle.std.proofs.lemmas.Iterator.{first_from_Range}
use Rattle.tapes.specs.Forks.{Attains}
use Rattle.tapes.proofs.Search.{lowest_found}
use Rattle.tapes.proofs.Fork.lowest_head.Goals as goal

pub returns : goal.returns
returns c = let a = c.args in
    let Says = Attains a.self.now a.top in
    lowest_found a.self.now a.top _ (first_from_Range _ _ _ _ (Says true) (Says false) c.find.ensures.ran (λ x q k. search rules) (λ x q k. (search rules, search rules)))
