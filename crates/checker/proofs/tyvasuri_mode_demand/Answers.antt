-- The number is that of the mode demand, whose place, where it is refused, is in the longest sheet or at its end. Assumes nothing.
use Rattle.query.specs.Query.{mode_terms}
use Rattle.demand.specs.Demanded.{answer_of}
use Rattle.checker.proofs.Bounds.{placed}
use Rattle.checker.proofs.tyvasuri_mode_demand.Goals as goal

pub figure_number-requires : goal.figure_number-requires
figure_number-requires c = let a = c.args in
    placed (mode_terms _ _ a.from a.to) _ a.sheet.now (answer_of c.mode_demand.result) c.mode_demand.ensures
