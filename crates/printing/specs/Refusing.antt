-- What is done where a report was refused. Assumes nothing.
use Rattle.std.specs.Prelude.{◌≡◌, Bool, cond, ◌||◌, List, ℕ, ltb, eqb, length, Result}
use Rattle.query.specs.Answer.{refused, given}
use Rattle.lines.specs.Lines.{refused_line}
use Rattle.judge.specs.declared.Refusal.{Refusal}
use Rattle.report.specs.Report.{out_bytes, answer_of}
use Rattle.printing.specs.Printed.{OutLeft}

-- nothing is printed where memory was too little, or there is no room for any lines
abbrev pub silent : ℕ → ℕ → Bool
silent number out = eqb number 10 || ltb out out_bytes

pub record Refusing (number place : ℕ) (o o' : List ℕ) (r : Result ℕ Refusal) : Type 0 where
  pub answer : answer_of r ≡ cond (silent number (length o)) (refused number place) (given (length (refused_line number place)))
  pub out : OutLeft (refused_line number place) o o' (answer_of r)
