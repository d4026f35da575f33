-- The calls: their ranges and memory, and what they answer (document 01, 'Refusal numbers' and 'Runs'). Assumes nothing.
use Rattle.std.specs.Prelude.{◌≡◌, Bool, true, ◌&&◌, List, [], ℕ, ◌*◌, leb, ltb, length}
use Rattle.model.specs.Sheet.{Sheet, module_at}
use Rattle.model.specs.Limits.{work_numbers}
use Rattle.model.specs.Run.{at, mode_at}
use Rattle.model.specs.Demand.{ModeDemand, StateDemand, ModuleDemand, mode_demand, value, module_demand}
use Rattle.model.specs.Verdict.{Quick, Exact, clear, over, QuickIs, ExactIs, quick, exact}
use Rattle.model.specs.Tape.{AreTapes, tapes}
use Rattle.query.specs.Answer.{Answer, Terms, Answered, answer}

-- Ranges (9).

abbrev pub is_module : Sheet → ℕ → Bool
is_module s k = ltb k (length s.modules)

abbrev pub is_mode : Sheet → ℕ → ℕ → Bool
is_mode s k m = is_module s k && ltb m (length (module_at s k).modes)

abbrev pub is_length : Sheet → ℕ → Bool
is_length s L = leb L s.horizon

-- mode times a and b have 0 ≤ a ≤ b ≤ mode period
abbrev pub mode_terms : ℕ → ℕ → ℕ → ℕ → Terms
mode_terms k m a b = record { in_range = λ s. is_mode s k m && leb a b && leb b (mode_at (module_at s k) m).period; enough = λ s. true }

-- a starting state has a mode time from 0 to the period less 1; a length is 0 to the horizon
abbrev pub state_terms : ℕ → ℕ → ℕ → ℕ → ℕ → Terms
state_terms k m d L work =
    record { in_range = λ s. is_mode s k m && ltb d (mode_at (module_at s k) m).period && is_length s L; enough = λ s. leb work_numbers work }

abbrev pub module_terms : ℕ → ℕ → ℕ → Terms
module_terms k L work = record { in_range = λ s. is_module s k && is_length s L; enough = λ s. leb work_numbers work }

abbrev pub quick_terms : ℕ → Terms
quick_terms work = record { in_range = λ s. true; enough = λ s. leb work_numbers work }

-- the tape memory is at least modules times horizon bytes, clear or not
abbrev pub exact_terms : ℕ → ℕ → Terms
exact_terms work tape = record { in_range = λ s. true; enough = λ s. leb work_numbers work && leb (length s.modules * s.horizon) tape }

-- What the answers are. `work` and `tape` are the lengths of the lent memory.

abbrev pub ModeAnswer : List ℕ → ℕ → ℕ → ℕ → ℕ → Answer ℕ → Type 0
ModeAnswer bytes k m a b = Answered (mode_terms k m a b) (λ s v. ModeDemand (module_at s k) m a b v) bytes

abbrev pub StateAnswer : List ℕ → ℕ → ℕ → ℕ → ℕ → ℕ → Answer ℕ → Type 0
StateAnswer bytes k m d L work = Answered (state_terms k m d L work) (λ s v. StateDemand (module_at s k) (at m d) L v) bytes

abbrev pub ModuleAnswer : List ℕ → ℕ → ℕ → ℕ → Answer ℕ → Type 0
ModuleAnswer bytes k L work = Answered (module_terms k L work) (λ s v. ModuleDemand (module_at s k) L v) bytes

abbrev pub QuickAnswer : List ℕ → ℕ → Answer Quick → Type 0
QuickAnswer bytes work = Answered (quick_terms work) QuickIs bytes

-- an exact verdict with its tapes: none where it is clear
pub record Witnessed : Type 0 where
  pub verdict : Exact
  pub tapes : List (List ℕ)

abbrev pub TapesOf : Sheet → Exact → List (List ℕ) → Type 0
TapesOf s clear ts = ts ≡ []
TapesOf s (over a b v) ts = AreTapes s a b ts

abbrev pub WitnessedIs : Sheet → Witnessed → Type 0
WitnessedIs s w = ExactIs s w.verdict × TapesOf s w.verdict w.tapes

abbrev pub ExactAnswer : List ℕ → ℕ → ℕ → Answer Witnessed → Type 0
ExactAnswer bytes work tape = Answered (exact_terms work tape) WitnessedIs bytes

-- What computes them.

abbrev pub mode_answer : List ℕ → ℕ → ℕ → ℕ → ℕ → Answer ℕ
mode_answer bytes k m a b = answer (mode_terms k m a b) (λ s. mode_demand (mode_at (module_at s k) m) a b) bytes

abbrev pub state_answer : List ℕ → ℕ → ℕ → ℕ → ℕ → ℕ → Answer ℕ
state_answer bytes k m d L work = answer (state_terms k m d L work) (λ s. value (module_at s k) 0 L (at m d)) bytes

abbrev pub module_answer : List ℕ → ℕ → ℕ → ℕ → Answer ℕ
module_answer bytes k L work = answer (module_terms k L work) (λ s. module_demand (module_at s k) L) bytes

abbrev pub quick_answer : List ℕ → ℕ → Answer Quick
quick_answer bytes work = answer (quick_terms work) quick bytes

abbrev pub tapes_for : Sheet → Exact → List (List ℕ)
tapes_for s clear = []
tapes_for s (over a b v) = tapes s a b

abbrev pub witnessed : Sheet → Witnessed
witnessed s = record { verdict = exact s; tapes = tapes_for s (exact s) }

abbrev pub exact_answer : List ℕ → ℕ → ℕ → Answer Witnessed
exact_answer bytes work tape = answer (exact_terms work tape) witnessed bytes
