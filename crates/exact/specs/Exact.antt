-- What `exact_test` answers, and what it leaves of the lent memory (document 01, 'Runs' and 'Refusal numbers'). Assumes nothing.
use Rattle.std.specs.Prelude.{List, [], ℕ, length, Option, Some, None, Result, Ok, Err}
use Rattle.model.specs.Verdict as Verdict
use Rattle.format.specs.Judgement.{sheet_in}
use Rattle.query.specs.Answer.{Answer, refused, given}
use Rattle.query.specs.Query.{Witnessed, ExactAnswer}
use Rattle.query.specs.Memory.{Stays, work_used, tapes_in, tape_used}
use Rattle.judge.specs.declared.Refusal.{Refusal}
use Rattle.judge.specs.Told.{number_of}
use Rattle.cells.specs.declared.Interval.{Interval}

-- the paper's numbers, where the tapes of n modules lie in the tape memory
abbrev pub answer_of : ℕ → List ℕ → Result (Option Interval) Refusal → Answer Witnessed
answer_of n memory (Err r) = refused (number_of r.fault) r.place
answer_of n memory (Ok None) = given (record { verdict = Verdict.Exact.clear; tapes = [] })
answer_of n memory (Ok (Some x)) = given (record { verdict = Verdict.Exact.over x.start x.end x.demand; tapes = tapes_in n x.end memory })

-- how many modules the sheet has
abbrev pub modules_in : List ℕ → ℕ
modules_in bytes = length (sheet_in bytes).modules

-- the working memory came as w and is left as w', the tape memory came as t and is left as t'
pub record ExactTested (bytes w w' t t' : List ℕ) (r : Result (Option Interval) Refusal) : Type 0 where
  pub answer : ExactAnswer bytes (length w) (length t) (answer_of (modules_in bytes) t' r)
  pub memory : Stays (work_used (answer_of (modules_in bytes) t' r)) w w'
  pub tape : Stays (tape_used (modules_in bytes) (answer_of (modules_in bytes) t' r)) t t'
