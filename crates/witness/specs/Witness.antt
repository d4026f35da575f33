-- The witness of the exact test in the tape memory: one tape for each module (document 01, 'Runs'). Assumes nothing.
use Rattle.std.specs.Prelude.{◌≡◌, List, ℕ, ◌+◌, ◌*◌, length, take, drop}
use Rattle.model.specs.Sheet.{Module, Sheet}
use Rattle.model.specs.Run.{first}
use Rattle.model.specs.Tape.{tape, tapes}
use Rattle.query.specs.Memory.{Stays, tapes_in}

-- the memory holds the tapes of all modules in a to b, and its other bytes are as they were
pub record WitnessWritten (s : Sheet) (a b : ℕ) (t t' : List ℕ) : Type 0 where
  pub tapes : tapes_in (length s.modules) b t' ≡ tapes s a b
  pub stays : Stays (length s.modules * b) t t'

-- from byte i on stands the tape of the module in a to b, and the bytes before it and after it are as they were
pub record WrittenAt (i : ℕ) (m : Module) (a b : ℕ) (t t' : List ℕ) : Type 0 where
  pub before : take i t' ≡ take i t
  pub written : take b (drop i t') ≡ tape m a b first
  pub after : Stays (i + b) t t'
