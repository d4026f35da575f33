-- What `write_report` answers, and what it leaves of the lent memory (document 01, 'Program and examples' and 'Refusal numbers'). Assumes nothing.
use Rattle.std.specs.Prelude.{◌≡◌, true, ◌&&◌, List, ℕ, leb, length, take, Option, Result, Ok, Err}
use Rattle.model.specs.Sheet.{Sheet}
use Rattle.query.specs.Answer.{Answer, refused, given, Terms, Answered}
use Rattle.query.specs.Query.{exact_terms}
use Rattle.query.specs.Memory.{Stays, work_used}
use Rattle.lines.specs.Lines.{sheet_lines}
use Rattle.judge.specs.declared.Refusal.{Refusal}
use Rattle.judge.specs.Told.{number_of}
use Rattle.cells.specs.declared.Interval.{Interval}
use Rattle.exact.specs.Exact.{ExactTested}

-- the lent output memory, in bytes: more than any report has
abbrev pub out_bytes : ℕ
out_bytes = 16384

-- the memory of the exact test, and that output
abbrev pub report_terms : ℕ → ℕ → ℕ → Terms
report_terms work tape out = record { in_range = λ s. true; enough = λ s. (exact_terms work tape).enough s && leb out_bytes out }

-- the paper's number and place, or how many bytes are written
abbrev pub answer_of : Result ℕ Refusal → Answer ℕ
answer_of (Err r) = refused (number_of r.fault) r.place
answer_of (Ok count) = given count

-- the first n bytes of the output are the lines of the sheet, and there are no more of them
pub record Lines (s : Sheet) (o : List ℕ) (n : ℕ) : Type 0 where
  pub count : n ≡ length (sheet_lines s)
  pub lines : take n o ≡ sheet_lines s

-- how much of the output memory a call uses
abbrev pub out_used : Answer ℕ → ℕ
out_used (refused number place) = 0
out_used (given n) = n

-- what the tape memory is left as: by a refused call as it came, else as the exact test leaves it
abbrev pub TapeLeft : List ℕ → List ℕ → List ℕ → List ℕ → List ℕ → Result ℕ Refusal → Type 0
TapeLeft bytes w w' t t' (Err r) = Stays 0 t t'
TapeLeft bytes w w' t t' (Ok count) = (x : Result (Option Interval) Refusal) × ExactTested bytes w w' t t' x

-- the working memory came as w and is left as w', the tape memory as t and t', the output memory as o and o'
pub record Reported (bytes w w' t t' o o' : List ℕ) (r : Result ℕ Refusal) : Type 0 where
  pub answer : Answered (report_terms (length w) (length t) (length o)) (λ s n. Lines s o' n) bytes (answer_of r)
  pub memory : Stays (work_used (answer_of r)) w w'
  pub tape : TapeLeft bytes w w' t t' r
  pub out : Stays (out_used (answer_of r)) o o'
