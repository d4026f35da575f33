-- What is printed for any bytes, and what that leaves of the lent memory (document 01, 'Program and examples'). Assumes nothing.
use Rattle.std.specs.Prelude.{◌≡◌, cond, List, ℕ, ◌≤◌, leb, length, take, Result, Ok, Err}
use Rattle.format.specs.Judgement.{Judgement, judgement}
use Rattle.query.specs.Answer.{Answer, refused, given}
use Rattle.lines.specs.Lines.{refused_line, sheet_lines, lines}
use Rattle.writing.specs.Writing.{Put}
use Rattle.judge.specs.declared.Refusal.{Refusal}
use Rattle.report.specs.Report.{out_bytes, report_terms, answer_of, Reported}

-- how many bytes the lines are: a sheet's fault has its line where the output memory is enough, else it is the refusal; a sound sheet has the lines
-- of its report, or is refused for too little memory
abbrev pub lines_answer : ℕ → ℕ → ℕ → Judgement → Answer ℕ
lines_answer work tape out (Judgement.refused number place) = cond (leb out_bytes out) (given (length (refused_line number place))) (refused number place)
lines_answer work tape out (Judgement.accepted s) = cond ((report_terms work tape out).enough s) (given (length (sheet_lines s))) (refused 10 0)

-- the output memory came as o: a refused call leaves it so, else it begins with xs, which are so many bytes, and is else as it came
abbrev pub OutLeft : List ℕ → List ℕ → List ℕ → Answer ℕ → Type 0
OutLeft xs o o' (refused number place) = o' ≡ o
OutLeft xs o o' (given n) = Put 0 n xs o o'

-- the working memory came as w and is left as w', the tape memory as t and t': both as a report leaves them, which leaves the output memory as `between`
pub record Printed (bytes w w' t t' o o' : List ℕ) (r : Result ℕ Refusal) : Type 0 where
  pub answer : answer_of r ≡ lines_answer (length w) (length t) (length o) (judgement bytes)
  pub out : OutLeft (lines bytes) o o' (answer_of r)
  pub report : Result ℕ Refusal
  pub between : List ℕ
  pub reported : Reported bytes w w' t t' o between report

-- the bytes that are counted are there
abbrev pub Counted : List ℕ → Result ℕ Refusal → Type 0
Counted o (Err r) = Unit {0}
Counted o (Ok n) = (n ≤ length o) × (n ≡ length (take n o))
