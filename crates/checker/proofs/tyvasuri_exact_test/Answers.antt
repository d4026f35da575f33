-- The number is that of what the exact test says: a refusal's place is in the longest sheet or at its end, and a demand fits its 24 bits. Assumes nothing.
use lib.ListN.{length}
use Rattle.checker.proofs.Bounds.{exact_fits}
use Rattle.checker.proofs.tyvasuri_exact_test.Goals as goal

pub exact_number-requires : goal.exact_number-requires
exact_number-requires c = let a = c.args in
    let x = c.exact_test in
    exact_fits a.sheet.now (length a.work.now) (length a.tape.now) _ _ x.result x.ensures.answer
