-- What the tests before an answer say of a call: it is refused, or its terms are met. Assumes nothing.
use Rattle.std.specs.Prelude.{Bool, true, false, ◌&&◌, List, ℕ, Result, Ok, Err, ltb}
use Rattle.model.specs.Sheet.{Sheet, module_at}
use Rattle.model.specs.Run.{mode_at}
use Rattle.query.specs.Answer.{Terms, Meets, RefusedWith}
use Rattle.query.specs.Query.{is_mode}
use Rattle.judge.specs.declared.Fault.TheVariants.{OutOfRange, MemoryTooSmall}
use Rattle.judge.specs.declared.Refusal.{Refusal}
use Rattle.judge.specs.Told.{number_of, refusal}

-- whatever figure is asked for, the call is refused; or the terms are met
abbrev pub Asks : Terms → List ℕ → Result (Unit {0}) Refusal → Type 0
Asks t bytes (Err r) = RefusedWith ℕ t bytes (number_of r.fault) r.place
Asks t bytes (Ok _) = Meets t bytes

-- 9 goes before 10
abbrev pub asked : Bool → Bool → Result (Unit {0}) Refusal
asked true true = Ok (record {})
asked true false = Err (refusal MemoryTooSmall 0)
asked false enough = Err (refusal OutOfRange 0)

-- d is a mode time of the mode m of the module k
abbrev pub is_state : Sheet → ℕ → ℕ → ℕ → Bool
is_state s k m d = is_mode s k m && ltb d (mode_at (module_at s k) m).period
