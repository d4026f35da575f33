-- What an answer of `mode_demand` says: the paper's number and place of a refusal (document 01, 'Refusal numbers'), or the mode demand ('Runs'). Assumes nothing.
use Rattle.std.specs.Prelude.{ℕ, Result, Ok, Err}
use Rattle.query.specs.Answer.{Answer, refused, given}
use Rattle.judge.specs.declared.Refusal.{Refusal}
use Rattle.judge.specs.Told.{number_of}

abbrev pub answer_of : Result ℕ Refusal → Answer ℕ
answer_of (Err r) = refused (number_of r.fault) r.place
answer_of (Ok demand) = given demand
