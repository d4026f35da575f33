-- What an answer of `exact_test` promises, from its contract alone: `ExactTested` is what the function ensures, of the sheet's bytes, the working
-- memory before and after, the tape memory before and after, and the answer. Assumes nothing.
use mathlib.Core.List.{List}
use Prim.Native.Nat.{ℕ}
use Rattle.format.specs.Judgement.{sheet_in, Accepted}
use Rattle.query.specs.Memory.{tapes_in}
use Rattle.exact.specs.Exact.{modules_in, ExactTested}
use Rattle.std.specs.Prelude.{Some, None, Ok}
use Rattle.cells.specs.declared.Interval.{Interval}
use Rattle.promise.specs.Promise.{ClearPromise, OverPromise}
use Rattle.promise.proofs.Tied.{clear_tied, over_tied}

-- Clear, where no interval is found: the sheet is accepted; and whatever switches are made, and if each instance takes no more than its cost, every
-- earliest-deadline-first order ends every instance that is due by the horizon on time.
pub exact_test_clear : (bytes w w' t t' : List ℕ) → ExactTested bytes w w' t t' (Ok None) → Accepted bytes × ClearPromise (sheet_in bytes)
exact_test_clear = clear_tied

-- Over, where one is found: the sheet is accepted; the tapes that the tape memory now holds are those of some runs; and for all runs that they show, at
-- full cost, no order of work ends every instance that is due by the named end on time.
pub exact_test_over : (bytes w w' t t' : List ℕ) (x : Interval) → ExactTested bytes w w' t t' (Ok (Some x))
    → Accepted bytes × OverPromise (sheet_in bytes) x.end (tapes_in (modules_in bytes) x.end t')
exact_test_over = over_tied
