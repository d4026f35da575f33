-- The tests of one record against the records read so far: order (3), counts (4), values (5, 6, 7) (document 01, 'Refusal numbers'; document 02, k).
-- The records read so far are a list with the last one first. Assumes nothing.
use Rattle.std.specs.Prelude.{◌≡◌, Bool, true, false, not, ◌&&◌, List, [], ◌∷◌, ◌++◌, ℕ, suc, ◌+◌, ◌*◌, ◌/◌, ◌%◌, leb, ltb, eqb, length}
use Rattle.model.specs.Lists.{any_below}
use Rattle.model.specs.Sheet.{Task, Kind, SW, SX, Switch, named}
use Rattle.model.specs.Limits.{max_horizon, max_modules, max_modes, max_mode_period, max_mode_tasks, max_tasks, max_switches}
use Rattle.format.specs.Record.{Mark, HZ, ML, MD, TK, switch, EN, Record, hz, ml, md, tk, sw, en, mark_of}

-- What has been read.

-- what a record of that mark has, and a switch of either kind; of any other record nothing
abbrev pub of_ml : Record → List ℕ
of_ml (hz h) = []
of_ml (ml n) = n ∷ []
of_ml (md p) = []
of_ml (tk k) = []
of_ml (sw w) = []
of_ml (en n) = []

abbrev pub of_md : Record → List ℕ
of_md (hz h) = []
of_md (ml n) = []
of_md (md p) = p ∷ []
of_md (tk k) = []
of_md (sw w) = []
of_md (en n) = []

abbrev pub of_tk : Record → List Task
of_tk (hz h) = []
of_tk (ml n) = []
of_tk (md p) = []
of_tk (tk k) = k ∷ []
of_tk (sw w) = []
of_tk (en n) = []

abbrev pub of_switch : Record → List Switch
of_switch (hz h) = []
of_switch (ml n) = []
of_switch (md p) = []
of_switch (tk k) = []
of_switch (sw w) = w ∷ []
of_switch (en n) = []

-- what f takes from the records
abbrev pub taken : {A : Type 0} → (Record → List A) → List Record → List A
taken f [] = []
taken f (r ∷ rs) = f r ++ taken f rs

-- the records after the last one that f takes something from
abbrev pub unless : List ℕ → Record → List Record → List Record
unless [] r rs = r ∷ rs
unless (x ∷ xs) r rs = []

abbrev pub since : (Record → List ℕ) → List Record → List Record
since f [] = []
since f (r ∷ rs) = unless (f r) r (since f rs)

-- the first number of a list, or 0
abbrev pub head_or_zero : List ℕ → ℕ
head_or_zero [] = 0
head_or_zero (x ∷ xs) = x

-- how many modules are opened
abbrev pub modules_read : List Record → ℕ
modules_read rs = length (taken of_ml rs)

-- how many modes the last ML states, and how many of them are opened
abbrev pub stated : List Record → ℕ
stated rs = head_or_zero (taken of_ml rs)

abbrev pub seen : List Record → ℕ
seen rs = length (taken of_md (since of_ml rs))

-- the period of the last mode, its tasks and its switches
abbrev pub mode_period : List Record → ℕ
mode_period rs = head_or_zero (taken of_md rs)

abbrev pub tasks_read : List Record → List Task
tasks_read rs = taken of_tk (since of_md rs)

abbrev pub switches_read : List Record → List Switch
switches_read rs = taken of_switch (since of_md rs)

abbrev pub is_empty : {A : Type 0} → List A → Bool
is_empty [] = true
is_empty (x ∷ xs) = false

-- EN is read
abbrev pub ended : List Record → Bool
ended [] = false
ended (hz h ∷ rs) = false
ended (ml n ∷ rs) = false
ended (md p ∷ rs) = false
ended (tk k ∷ rs) = false
ended (sw w ∷ rs) = false
ended (en n ∷ rs) = true

-- 3: one HZ; one or more modules; EN. A module has exactly the stated number of modes. A mode is MD, then its TK, then its SW and SX records.
unfoldable pub ordered : Mark → List Record → Bool
ordered HZ rs = is_empty rs
ordered ML rs = not (is_empty rs) && eqb (seen rs) (stated rs)
ordered MD rs = ltb (seen rs) (stated rs)
ordered TK rs = ltb 0 (seen rs) && is_empty (switches_read rs)
ordered (switch k) rs = ltb 0 (seen rs)
ordered EN rs = ltb 0 (modules_read rs) && eqb (seen rs) (stated rs)

-- 4: ninth ML, 17th TK in a mode, 257th TK, or 129th of SW and SX together
unfoldable pub counted : Mark → List Record → Bool
counted HZ rs = true
counted ML rs = ltb (modules_read rs) max_modules
counted MD rs = true
counted TK rs = ltb (length (tasks_read rs)) max_mode_tasks && ltb (length (taken of_tk rs)) max_tasks
counted (switch k) rs = ltb (length (taken of_switch rs)) max_switches
counted EN rs = true

abbrev pub between : ℕ → ℕ → ℕ → Bool
between least most n = leb least n && leb n most

-- p is at least 1 and divides n
abbrev pub divides : ℕ → ℕ → Bool
divides p n = leb 1 p && eqb (n % p) 0

-- the test passes for each element
abbrev pub each : {A : Type 0} → (A → Bool) → List A → Bool
each q [] = true
each q (x ∷ xs) = q x && each q xs

-- in a mode of this period
unfoldable pub task_ruled : ℕ → Task → Bool
task_ruled period k = leb 1 k.cost && leb k.cost k.LET && leb (k.offset + k.LET) k.period && divides k.period period

-- x splits an instance of the task: the rest that it leaves, divided by the task period, lies strictly between offset and offset + LET
abbrev pub splits : Task → ℕ → Bool
splits k x = ltb k.offset (x % k.period) && ltb (x % k.period) (k.offset + k.LET)

-- no positive multiple of p up to the mode period splits an instance
abbrev pub keeps_whole : ℕ → ℕ → Task → Bool
keeps_whole period p k = not (any_below (λ j. splits k (suc j * p)) (period / p))

-- The rule of a switch's kind for the switch period p and a task, in a mode of this period: of SW, p is a multiple of the task period;
-- of SX, no positive multiple of p up to the mode period splits an instance. A task period of 0, which no task that was read has, keeps neither.
unfoldable pub kind_ruled : Kind → ℕ → ℕ → Task → Bool
kind_ruled SW period p k = divides k.period p
kind_ruled SX period p k = leb 1 k.period && keeps_whole period p k

-- the target is a mode of the same module, is not the mode itself (which is the last one seen), and is named once in a mode;
-- the switch period is at least 1, divides the mode period and keeps the rule of its kind for every task of the mode
unfoldable pub switch_ruled : List Record → Switch → Bool
switch_ruled rs w =
    ltb w.target (stated rs) && not (eqb (w.target + 1) (seen rs)) && not (named w.target (switches_read rs)) && divides w.period (mode_period rs) && each (kind_ruled w.kind (mode_period rs) w.period) (tasks_read rs)

-- 5, 6, 7: a field breaks its rule
unfoldable pub ruled : Record → List Record → Bool
ruled (hz h) rs = between 1 max_horizon h
ruled (ml n) rs = between 1 max_modes n
ruled (md p) rs = between 1 max_mode_period p
ruled (tk k) rs = task_ruled (mode_period rs) k
ruled (sw w) rs = switch_ruled rs w
ruled (en n) rs = eqb n (length rs)

-- the number of the refusal of a field
abbrev pub field_number : Mark → ℕ
field_number HZ = 5
field_number ML = 5
field_number MD = 5
field_number TK = 5
field_number (switch k) = 6
field_number EN = 7

-- the record meets its tests after the records read so far
pub record Sound (rs : List Record) (r : Record) : Type 0 where
  pub order : ordered (mark_of r) rs ≡ true
  pub count : counted (mark_of r) rs ≡ true
  pub value : ruled r rs ≡ true

-- each record meets its tests after those before it, and only the last may be EN
abbrev pub AllSound : List Record → Type 0
AllSound [] = Unit {0}
AllSound (r ∷ rs) = AllSound rs × (ended rs ≡ false) × Sound rs r
