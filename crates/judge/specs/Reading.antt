-- How what the code has read stands for the records read so far, and what a step of the code has to make of it. Assumes nothing.
use Rattle.std.specs.Prelude.{◌≡◌, Option as CodeOption, Some, None, Result, IsOkAnd, IsErrAnd, Bool, true, false, not, ◌&&◌, List, [], ◌∷◌, ℕ, zero, suc, ◌+◌, ◌*◌, ◌≤◌, ltb, eqb, length, get_or}
use Rattle.std.proofs.Math.Option.{Option, none, some}
use Rattle.model.specs.Sheet.{Task, Kind, SW, SX, Switch, named}
use Rattle.model.specs.Limits.{max_modules, max_modes, max_mode_tasks, max_tasks, max_switches, max_bytes}
use Rattle.format.specs.Record.{Mark, HZ, ML, MD, TK, switch, EN, Record, hz, ml, md, tk, sw, en, size, task_at, record_at}
use Rattle.format.specs.Rules.{of_md, of_tk, of_switch, taken, modules_read, stated, seen, mode_period, tasks_read, switches_read, is_empty, ended, ordered, counted, divides, each, kind_ruled, ruled, field_number}
use Rattle.format.specs.Judgement.{Tested, fault, sound, or_fault, tested}
use Rattle.format.specs.Refusal.{bytes_in}
use Rattle.judge.specs.declared.Kind.{Kind as CodeKind}
use Rattle.judge.specs.declared.Kind.TheVariants.{Sw, Sx}
use Rattle.judge.specs.declared.Mark.{Mark as CodeMark}
use Rattle.judge.specs.declared.Mark.TheVariants.{Hz, Ml, Md, Tk, Switch as SwitchMark, En}
use Rattle.judge.specs.declared.Switch.{Switch as CodeSwitch}
use Rattle.judge.specs.declared.Refusal.{Refusal}
use Rattle.judge.specs.declared.Sheet.{Sheet}
use Rattle.judge.specs.Told.{number_of}

-- The code's kinds, marks and switches.

abbrev pub kind_of : CodeKind → Kind
kind_of Sw = SW
kind_of Sx = SX

abbrev pub marked : CodeMark → Mark
marked Hz = HZ
marked Ml = ML
marked Md = MD
marked Tk = TK
marked (SwitchMark k) = switch (kind_of k)
marked En = EN

abbrev pub found : CodeOption CodeMark → Option Mark
found (Some m) = some (marked m)
found None = none

abbrev pub switch_of : CodeSwitch → Switch
switch_of w = record { kind = kind_of w.kind; target = w.target; period = w.period }

-- The tests that look back, by the state.

-- 3: the order of a mark
abbrev pub order_kept : Mark → Sheet → Bool
order_kept HZ st = eqb st.records 0
order_kept ML st = ltb 0 st.records && eqb st.seen st.stated
order_kept MD st = ltb st.seen st.stated
order_kept TK st = ltb 0 st.seen && not st.switching
order_kept (switch k) st = ltb 0 st.seen
order_kept EN st = ltb 0 st.modules && eqb st.seen st.stated

-- the n tasks from the place p on, the last one first
abbrev pub tasks_at : List ℕ → ℕ → ℕ → List Task
tasks_at bs p zero = []
tasks_at bs p (suc n) = task_at bs (p + 10 * n) ∷ tasks_at bs p n

-- 6: the rules of a switch; the tasks of the open mode are read again from the bytes
unfoldable pub switch_kept : List ℕ → Sheet → Switch → Bool
switch_kept bs st w =
    ltb w.target st.stated && not (eqb (w.target + 1) st.seen) && not (get_or st.named w.target false) && divides w.period st.period && each (kind_ruled w.kind st.period w.period) (tasks_at bs st.from st.held)

-- What has been read.

-- the horizon of HZ, which is the first record
abbrev pub horizon_read : List Record → ℕ
horizon_read [] = 0
horizon_read (hz h ∷ rs) = h
horizon_read (ml n ∷ rs) = horizon_read rs
horizon_read (md p ∷ rs) = horizon_read rs
horizon_read (tk k ∷ rs) = horizon_read rs
horizon_read (sw w ∷ rs) = horizon_read rs
horizon_read (en n ∷ rs) = horizon_read rs

-- where a task may be next, it follows those of its mode at once
abbrev pub TaskNext : Sheet → List Record → Type 0
TaskNext st rs = ended rs ≡ false → ordered TK rs ≡ true → st.at ≡ st.from + 10 * st.held

-- The state stands for the records rs of the bytes, the last one first.
pub record Reads (bs : List ℕ) (st : Sheet) (rs : List Record) : Type 0 where
  pub at : st.at ≡ bytes_in rs
  pub records : st.records ≡ length rs
  pub horizon : st.horizon ≡ horizon_read rs
  pub modules : st.modules ≡ modules_read rs
  pub modes : st.modes ≡ length (taken of_md rs)
  pub tasks : st.tasks ≡ length (taken of_tk rs)
  pub switches : st.switches ≡ length (taken of_switch rs)
  pub stated : st.stated ≡ stated rs
  pub seen : st.seen ≡ seen rs
  pub period : st.period ≡ mode_period rs
  pub held : st.held ≡ length (tasks_read rs)
  pub tasks_there : tasks_at bs st.from st.held ≡ tasks_read rs
  pub tasks_passed : st.from + 10 * st.held ≤ st.at
  pub task_next : TaskNext st rs
  pub switching : not st.switching ≡ is_empty (switches_read rs)
  pub named : (t : ℕ) → get_or st.named t false ≡ named t (switches_read rs)
  pub ended : st.ended ≡ ended rs
  pub named_room : length st.named ≡ max_modes

-- a state at a record that is to be read: no number of it is past its limit
pub record Within (bs : List ℕ) (st : Sheet) : Type 0 where
  pub inside : st.at ≤ length bs
  pub bytes : st.at ≤ max_bytes
  pub records : st.records ≤ st.at
  pub modules : st.modules ≤ max_modules
  pub modes : st.modes ≤ max_modules * max_modes
  pub tasks : st.tasks ≤ max_tasks
  pub switches : st.switches ≤ max_switches
  pub stated : st.stated ≤ max_modes
  pub seen : st.seen ≤ max_modes
  pub held : st.held ≤ max_mode_tasks
  pub tasks_passed : st.from + 10 * st.held ≤ st.at
  pub going : st.ended ≡ false

-- .. that is there whole and in order
pub record Room (m : Mark) (bs : List ℕ) (st : Sheet) : Type 0 where
  pub within : Within bs st
  pub order : order_kept m st ≡ true
  pub fits : st.at + size m ≤ length bs

-- One step.

-- the state with these numbers, one record of so many bytes further on
abbrev pub row : Sheet → ℕ → ℕ → ℕ → ℕ → ℕ → ℕ → ℕ → ℕ → ℕ → ℕ → ℕ → Bool → Bool → List Bool → Sheet
row st bytes horizon modules modes tasks switches stated seen period from held switching ended named =
    record {
      at = st.at + bytes;
      records = st.records + 1;
      horizon = horizon;
      modules = modules;
      modes = modes;
      tasks = tasks;
      switches = switches;
      stated = stated;
      seen = seen;
      period = period;
      from = from;
      held = held;
      switching = switching;
      ended = ended;
      named = named;
    }

-- the state as it was, one record further on
abbrev pub onward : ℕ → Sheet → Sheet
onward bytes st =
    row st bytes st.horizon st.modules st.modes st.tasks st.switches st.stated st.seen st.period st.from st.held st.switching st.ended st.named

-- the turn t, which leads from st to next, is what the tests of the record after rs say: the fault's number at this place, or the records with this one
unfoldable pub Turned : List ℕ → Sheet → Sheet → Result (Unit {0}) Refusal → List Record → Tested → Type 0
Turned bs st next t rs (fault n) = IsErrAnd t (λ r. (number_of r.fault ≡ n) × (r.place ≡ st.at))
Turned bs st next t rs (sound r) = IsOkAnd t (λ _. Reads bs next (r ∷ rs))

-- counts (4) and values (5, 6, 7) of a record of this mark
unfoldable pub judged : Mark → Record → List Record → Tested
judged m r rs = or_fault (counted m rs) 4 (or_fault (ruled r rs) (field_number m) (sound r))

-- a record of this mark, whole and in order, is judged for whatever records the state stands for
abbrev pub Judges : Mark → List ℕ → Sheet → Sheet → Result (Unit {0}) Refusal → Type 0
Judges m bs st next t = (rs : List Record) → Reads bs st rs → Turned bs st next t rs (judged m (record_at m bs st.at) rs)

-- whatever is at the state's place is
abbrev pub Steps : List ℕ → Sheet → Sheet → Result (Unit {0}) Refusal → Type 0
Steps bs st next t = (rs : List Record) → Reads bs st rs → Turned bs st next t rs (tested bs st.at rs)
