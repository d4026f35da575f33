-- The number is that of the state demand, whose place, where it is refused, is in the longest sheet or at its end. Assumes nothing.
use lib.ListN.{length}
use Rattle.query.specs.Query.{state_terms}
use Rattle.demand.specs.Demanded.{answer_of}
use Rattle.checker.proofs.Bounds.{placed}
use Rattle.checker.proofs.tyvasuri_state_demand.Goals as goal

pub figure_number-requires : goal.figure_number-requires
figure_number-requires c = let a = c.args in
    placed (state_terms _ _ _ _ (length a.work.now)) _ a.sheet.now (answer_of c.state_demand.result) c.state_demand.ensures.answer
