-- What `state_demand` and `module_demand` answer, and what they leave of the lent memory (document 01, 'Runs' and 'Refusal numbers'). Assumes nothing.
use Rattle.std.specs.Prelude.{List, ℕ, Result, length}
use Rattle.query.specs.Query.{StateAnswer, ModuleAnswer}
use Rattle.query.specs.Memory.{Stays, work_used}
use Rattle.demand.specs.Demanded.{answer_of}
use Rattle.judge.specs.declared.Refusal.{Refusal}

-- from mode time d of the mode m of the module k, in L ticks
pub record StateDemanded (bytes : List ℕ) (k m d L : ℕ) (w w' : List ℕ) (r : Result ℕ Refusal) : Type 0 where
  pub answer : StateAnswer bytes k m d L (length w) (answer_of r)
  pub memory : Stays (work_used (answer_of r)) w w'

-- of the module k, in L ticks
pub record ModuleDemanded (bytes : List ℕ) (k L : ℕ) (w w' : List ℕ) (r : Result ℕ Refusal) : Type 0 where
  pub answer : ModuleAnswer bytes k L (length w) (answer_of r)
  pub memory : Stays (work_used (answer_of r)) w w'
