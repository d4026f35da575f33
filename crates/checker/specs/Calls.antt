-- What a call at the C boundary promises: there is an answer that meets the call's statement, the number is that answer's, and of the lent memory only what the
-- answer uses may differ. Assumes nothing.
use Rattle.std.specs.Prelude.{◌≡◌, List, ℕ, ◌^◌, ◌≤◌, ◌<◌, length, Option, Some, None, Result, Ok, Err}
use Rattle.model.specs.Limits.{max_bytes}
use Rattle.query.specs.Answer.{Answer, refused, given}
use Rattle.query.specs.Memory.{Stays, work_used}
use Rattle.judge.specs.declared.Refusal.{Refusal}
use Rattle.cells.specs.declared.Interval.{Interval}
use Rattle.report.specs.Report.{out_bytes}

-- r is the number of an answer that R states
pub record Numbered {A : Type 0} (number_of : A → ℕ) (R : A → Type 0) (r : ℕ) : Type 0 where
  pub answer : A
  pub is : R answer
  pub number : r ≡ number_of answer

-- R states the answer, where the working memory came as w and is left as w'
pub record Worked {A : Type 0} (R : ℕ → Answer A → Type 0) (w w' : List ℕ) (a : Answer A) : Type 0 where
  pub answer : R (length w) a
  pub memory : Stays (work_used a) w w'

-- a refusal's place is in the longest sheet or at its end
abbrev pub Placed : {A : Type 0} → Answer A → Type 0
Placed (refused number place) = place ≤ max_bytes
Placed (given v) = Unit {0}

-- the same of the exact test, whose demand fits the 24 bits above start and end
abbrev pub Fits : Result (Option Interval) Refusal → Type 0
Fits (Err r) = r.place ≤ max_bytes
Fits (Ok None) = Unit {0}
Fits (Ok (Some x)) = x.demand < 2 ^ 24

-- the same of a report, whose lines the output memory can hold
abbrev pub Held : Answer ℕ → Type 0
Held (refused number place) = place ≤ max_bytes
Held (given n) = n ≤ out_bytes
