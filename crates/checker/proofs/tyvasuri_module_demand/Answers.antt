-- The number is that of the module demand, whose place, where it is refused, is in the longest sheet or at its end. Assumes nothing.
use lib.ListN.{length}
use Rattle.query.specs.Query.{module_terms}
use Rattle.demand.specs.Demanded.{answer_of}
use Rattle.checker.proofs.Bounds.{placed}
use Rattle.checker.proofs.tyvasuri_module_demand.Goals as goal

pub figure_number-requires : goal.figure_number-requires
figure_number-requires c = let a = c.args in
    placed (module_terms _ _ (length a.work.now)) _ a.sheet.now (answer_of c.module_demand.result) c.module_demand.ensures.answer
