-- What the tests before an answer say of a call: it is refused, or its terms are met. Assumes nothing.
use Rattle.std.specs.Prelude.{◌≡◌, ◌⊎◌, Bool, true, false, List, ℕ, length, Result, Ok, Err}
use Rattle.model.specs.Sheet.{counts}
use Rattle.format.specs.Judgement.{judgement, sheet_in}
use Rattle.judge.specs.declared.Fault.TheVariants.{MemoryTooSmall}
use Rattle.judge.specs.declared.Judged.{Judged}
use Rattle.judge.specs.declared.Refusal.{Refusal}
use Rattle.judge.specs.Told.{refusal, told, tells_of}
use Rattle.query.specs.Answer.{Terms, Meets}

-- the terms are met by a sheet of these counts and this horizon
pub record Sound (t : Terms) (bytes : List ℕ) (a : Judged) : Type 0 where
  pub met : Meets t bytes
  pub modules_are : a.modules ≡ length (sheet_in bytes).modules
  pub modes_are : a.modes ≡ (counts (sheet_in bytes)).modes
  pub tasks_are : a.tasks ≡ (counts (sheet_in bytes)).tasks
  pub switches_are : a.switches ≡ (counts (sheet_in bytes)).switches
  pub horizon_is : a.horizon ≡ (sheet_in bytes).horizon

-- what is told of the sheet, where the lent memory is enough, as P says of the counts and the horizon; the sheet's fault goes before the memory
abbrev pub AskedBy : (Judged → Bool → Type 0) → List ℕ → Result Judged Refusal → Type 0
AskedBy P bytes (Err r) = (told (Err r) ≡ tells_of (judgement bytes)) ⊎ ((a : Judged) × (told (Ok a) ≡ tells_of (judgement bytes)) × P a false × (r ≡ refusal MemoryTooSmall 0))
AskedBy P bytes (Ok a) = (told (Ok a) ≡ tells_of (judgement bytes)) × P a true
