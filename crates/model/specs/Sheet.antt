-- The sheet's values (document 01, 'The sheet'; document 02, k). Records, so that a later field joins its record. Assumes nothing.
use Rattle.std.specs.Prelude.{Bool, false, ◌||◌, List, [], ◌∷◌, ℕ, eqb, length, get_or}
use Rattle.model.specs.Lists.{sum_of}

pub record Task : Type 0 where
  pub offset : ℕ
  pub cost : ℕ
  pub LET : ℕ
  pub period : ℕ

-- The two kinds of switch, which runs do not tell apart: SW where task periods end, SX at idle instants (document 02, k).
pub data Kind : Type 0 where
  SW SX : Kind

pub record Switch : Type 0 where
  pub kind : Kind
  pub target : ℕ
  pub period : ℕ

pub record Mode : Type 0 where
  pub period : ℕ
  pub tasks : List Task
  pub switches : List Switch

pub record Module : Type 0 where
  pub modes : List Mode

pub record Sheet : Type 0 where
  pub horizon : ℕ
  pub modules : List Module

-- whether one of the switches names the target
abbrev pub named : ℕ → List Switch → Bool
named target [] = false
named target (w ∷ ws) = eqb target w.target || named target ws

-- what a number names that no module of the sheet has
abbrev pub absent : Module
absent = record { modes = [] }

-- the module of a number; a number that no module has names one without modes
abbrev pub module_at : Sheet → ℕ → Module
module_at s k = get_or s.modules k absent

-- how many of each a module and a sheet have
abbrev pub modes_in : Module → ℕ
modes_in m = length m.modes

abbrev pub tasks_in : Module → ℕ
tasks_in m = sum_of (λ (o : Mode). length o.tasks) m.modes

abbrev pub switches_in : Module → ℕ
switches_in m = sum_of (λ (o : Mode). length o.switches) m.modes

pub record Counts : Type 0 where
  pub modules : ℕ
  pub modes : ℕ
  pub tasks : ℕ
  pub switches : ℕ

abbrev pub counts : Sheet → Counts
counts s =
    record {
      modules = length s.modules;
      modes = sum_of modes_in s.modules;
      tasks = sum_of tasks_in s.modules;
      switches = sum_of switches_in s.modules;
    }
