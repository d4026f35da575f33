-- Of the instances due by b, those that are not released before a. Assumes nothing.
use borrow.Author.Rules.{rules}
use Rattle.model.specs.Demand.{instances}
use Rattle.demand.proofs.instances.Goals as goal

pub returns : goal.returns
unfolding instances
returns c = search rules
