-- The sheet's fault goes before the arguments, and these before the memory. Assumes nothing.
use borrow.Author.Tests.{lt-ltb, le-ltb}
use Rattle.query.specs.Query.{module_terms}
use Rattle.query.proofs.Meeting.{fault_refused}
use Rattle.std.proofs.lemmas.Result.{err_from_is_err_and}
use Rattle.judge.proofs.JudgedLaws.{accepted_told, refused_told}
use Rattle.states.proofs.Asking.{asks_tested}
use Rattle.states.proofs.module_asked.Goals.{then-module-judged, else-module-judged}
use Rattle.states.proofs.module_asked.Goals as goal

pub returns-in_err-judged : goal.returns-in_err-judged
returns-in_err-judged c = let a = c.args in
    let p = err_from_is_err_and c.from_residual.result c.from_residual.ensures.1 in
    rw (p.1, p.2) (fault_refused (module_terms a.«module» a.length a.work) a.sheet.now (refused_told _ a.sheet.now c.in_err-judged.ensures))

pub returns : goal.returns
returns c = let a = c.args in
    let w = accepted_told c.in_ok-judged.judged a.sheet.now c.in_ok-judged.ensures in
    asks_tested (module_terms a.«module» a.length a.work) a.sheet.now w.is_accepted
    (elim c.if-module-judged.branch [
      | then-module-judged v ↦ rw (v.in_range-is, w.horizon_is, ← w.modules_are, lt-ltb _ _ v.if-module-judged.true)
      | else-module-judged v ↦ rw (v.in_range-is, ← w.modules_are, le-ltb _ _ v.if-module-judged.false)
    ]) c.tested.ensures
