-- `attains_at` tells whether a mode opens and its head is the top. Assumes nothing.
use borrow.Author.Rules.{rules}
use Rattle.tapes.proofs.Search.{head_is}
use Rattle.tapes.proofs.Fork.attains_at.Goals as goal

pub returns : goal.returns
returns c = record { each = λ m ok told. head_is _ c.args.top _ _ c.head.result (c.head.ensures.1 m ok told) (search rules) }
