-- What `quick_test` answers, and what it leaves of the lent memory (document 01, 'Runs' and 'Refusal numbers'). Assumes nothing.
use Rattle.std.specs.Prelude.{List, ℕ, length, Option, Result, Ok, Err}
use Rattle.model.specs.Verdict.{Quick as Verdict}
use Rattle.query.specs.Answer.{Answer, refused, given}
use Rattle.query.specs.Query.{QuickAnswer}
use Rattle.query.specs.Memory.{Stays, work_used}
use Rattle.judge.specs.declared.Refusal.{Refusal}
use Rattle.judge.specs.Told.{number_of}
use Rattle.sums.specs.declared.Excess.{Excess}
use Rattle.sums.specs.Sums.{quick_of}

-- the paper's number and place, or its verdict
abbrev pub answer_of : Result (Option Excess) Refusal → Answer Verdict
answer_of (Err r) = refused (number_of r.fault) r.place
answer_of (Ok found) = given (quick_of found)

pub record QuickTested (bytes w w' : List ℕ) (r : Result (Option Excess) Refusal) : Type 0 where
  pub answer : QuickAnswer bytes (length w) (answer_of r)
  pub memory : Stays (work_used (answer_of r)) w w'
