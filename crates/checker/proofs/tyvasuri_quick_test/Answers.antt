-- The number is that of what the quick test says, whose place, where it is refused, is in the longest sheet or at its end. Assumes nothing.
use lib.ListN.{length}
use Rattle.model.specs.Verdict.{QuickIs}
use Rattle.query.specs.Query.{quick_terms}
use Rattle.quick.specs.Quick.{answer_of}
use Rattle.checker.proofs.Bounds.{placed}
use Rattle.checker.proofs.tyvasuri_quick_test.Goals as goal

pub quick_number-requires : goal.quick_number-requires
quick_number-requires c = let a = c.args in
    placed (quick_terms (length a.work.now)) QuickIs a.sheet.now (answer_of c.quick_test.result) c.quick_test.ensures.answer
