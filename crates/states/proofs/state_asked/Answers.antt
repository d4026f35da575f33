-- The sheet's fault goes before the arguments, and these before the memory. Assumes nothing.
use Rattle.query.specs.Query.{state_terms}
use Rattle.query.proofs.Meeting.{fault_refused}
use Rattle.std.proofs.lemmas.Result.{err_from_is_err_and}
use Rattle.judge.proofs.JudgedLaws.{accepted_told, refused_told}
use Rattle.states.proofs.Asking.{asks_tested}
use Rattle.states.proofs.state_asked.Goals.{then-is_state, else-is_state}
use Rattle.states.proofs.state_asked.Goals as goal

pub returns-in_err-judged : goal.returns-in_err-judged
returns-in_err-judged c = let a = c.args in
    let p = err_from_is_err_and c.from_residual.result c.from_residual.ensures.1 in
    rw (p.1, p.2) (fault_refused (state_terms a.«module» a.mode a.time a.length a.work) a.sheet.now (refused_told _ a.sheet.now c.in_err-judged.ensures))

pub returns : goal.returns
returns c = let a = c.args in
    let w = accepted_told c.in_ok-judged.judged a.sheet.now c.in_ok-judged.ensures in
    asks_tested (state_terms a.«module» a.mode a.time a.length a.work) a.sheet.now w.is_accepted (elim c.if-is_state.branch [ then-is_state v ↦ rw (v.in_range-is, w.horizon_is, ← v.if-is_state.ensures) | else-is_state v ↦ rw (v.in_range-is, ← c.is_state.ensures, v.if-is_state.false) ]) c.tested.ensures
