-- What the answers of the tests add to a report. Assumes nothing.
use Rattle.std.specs.Prelude.{List, [], ◌++◌, ℕ, ◌*◌, ◌≤◌, length, Option, Some, None, Result}
use Rattle.model.specs.Lists.{All}
use Rattle.model.specs.Limits.{max_horizon}
use Rattle.model.specs.Verdict.{exact}
use Rattle.format.specs.Judgement.{sheet_in}
use Rattle.query.specs.Answer.{Answer, refused, given}
use Rattle.query.specs.Query.{Witnessed}
use Rattle.query.specs.Memory.{tapes_in}
use Rattle.lines.specs.Lines.{sheet_line_of, exact_line, run_lines, witness_lines}
use Rattle.writing.specs.Writing.{Put, OneDigitEach}
use Rattle.judge.specs.declared.Judged.{Judged}
use Rattle.judge.specs.declared.Refusal.{Refusal}
use Rattle.cells.specs.declared.Interval.{Interval}
use Rattle.exact.specs.Exact.{ExactTested}

-- the line of a sheet of these counts and this horizon
abbrev pub head_of : Judged → List ℕ
head_of a = sheet_line_of a.modules a.modes a.tasks a.switches a.horizon

-- the lines of an answer: a refusal has none
abbrev pub said : {A : Type 0} → (A → List ℕ) → Answer A → List ℕ
said line (refused number place) = []
said line (given v) = line v

-- an exact verdict's line, and the runs of its tapes
abbrev pub witnessed_lines : Witnessed → List ℕ
witnessed_lines w = exact_line w.verdict ++ run_lines 0 w.tapes

-- n tapes of b ticks lie in the memory, and each mode's number is one digit
pub record TapesThere (n b : ℕ) (memory : List ℕ) : Type 0 where
  pub short : b ≤ max_horizon
  pub within : n * b ≤ length memory
  pub digits : All OneDigitEach (tapes_in n b memory)

-- where an interval is over its tapes are there
abbrev pub Printable : ℕ → List ℕ → Option Interval → Type 0
Printable n memory None = Unit {0}
Printable n memory (Some x) = TapesThere n x.end memory

-- the exact test is done, and its lines stand in the output memory from the place `at` on
pub record ExactWritten (bytes : List ℕ) (at next : ℕ) (w w' t t' o o' : List ℕ) : Type 0 where
  pub verdict : Result (Option Interval) Refusal
  pub tested : ExactTested bytes w w' t t' verdict
  pub put : Put at next (exact_line (exact (sheet_in bytes)) ++ witness_lines (sheet_in bytes) (exact (sheet_in bytes))) o o'
