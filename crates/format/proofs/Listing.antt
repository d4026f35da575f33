-- The records of a sheet value, read in order, give the value back; and those of a well_formed one are sound. Assumes nothing.
use mathlib.Core.Path.{◌≡◌, refl, sym, ap}
use mathlib.Core.Bool.{true, false}
use mathlib.Core.List.{List, [], ◌∷◌, ◌++◌, map, reverse, reverse_aux, reverse_aux-append, append-nil}
use Prim.Native.Nat.{ℕ, suc, ◌+◌, ◌≤◌, ◌<◌}
use native.Mathlib.Omega.{arith}
use lib.ListN.{length, length-reverse_aux}
use borrow.Author.Tests.{lt-ltb, le-leb, eq-eqb, ne_eqb}
use Rattle.model.specs.Lists.{sum_of, All, AllFrom, Distinct}
use Rattle.model.specs.Sheet.{Task, Kind, Switch, Mode, Module, Sheet, tasks_in, switches_in, named}
use Rattle.model.specs.Limits.{max_modules, max_mode_tasks, max_tasks, max_switches}
use Rattle.model.specs.WellFormed.{TaskRule, KindRule, SwitchRule, ModeRule, ModuleRule, WellFormed}
use Rattle.format.specs.Record.{Record, hz, ml, md, tk, sw, en}
use Rattle.format.specs.Encoding.{joined, mode_records, module_records, records_before_end, records}
use Rattle.format.specs.Rules.{of_tk, of_switch, taken, modules_read, stated, seen, mode_period, tasks_read, switches_read, is_empty, ended, ordered, counted, each, task_ruled, kind_ruled, switch_ruled, ruled, Sound, AllSound}
use Rattle.format.specs.Judgement.{gather, gathered}
use Rattle.format.proofs.KindRules.{kind_ruled_lem}

-- What is gathered, level by level: the records of a part give the part.

tasks_gathered : (ks : List Task) (rs : List Record) (js : List Task) (ws : List Switch) (os : List Mode) (ms : List Module) → gather (reverse_aux (map tk ks) rs) js ws os ms ≡ gather rs (ks ++ js) ws os ms
unfolding gather
tasks_gathered [] rs js ws os ms = refl
tasks_gathered (k ∷ ks) rs js ws os ms = tasks_gathered ks (tk k ∷ rs) js ws os ms

switches_gathered : (ws : List Switch) (rs : List Record) (ks : List Task) (vs : List Switch) (os : List Mode) (ms : List Module) → gather (reverse_aux (map sw ws) rs) ks vs os ms ≡ gather rs ks (ws ++ vs) os ms
unfolding gather
switches_gathered [] rs ks vs os ms = refl
switches_gathered (w ∷ ws) rs ks vs os ms = switches_gathered ws (sw w ∷ rs) ks vs os ms

mode_gathered : (o : Mode) (rs : List Record) (os : List Mode) (ms : List Module) → gather (reverse_aux (mode_records o) rs) [] [] os ms ≡ gather rs [] [] (o ∷ os) ms
unfolding gather mode_records
mode_gathered o rs os ms =
    rw (reverse_aux-append (map tk o.tasks) (map sw o.switches) (md o.period ∷ rs), switches_gathered, tasks_gathered, append-nil o.tasks, append-nil o.switches)

modes_gathered : (os : List Mode) (rs : List Record) (ps : List Mode) (ms : List Module) → gather (reverse_aux (joined mode_records os) rs) [] [] ps ms ≡ gather rs [] [] (os ++ ps) ms
modes_gathered [] rs ps ms = refl
modes_gathered (o ∷ os) rs ps ms =
    rw (reverse_aux-append (mode_records o) (joined mode_records os) rs, modes_gathered os (reverse_aux (mode_records o) rs) ps ms) (mode_gathered o rs (os ++ ps) ms)

module_gathered : (m : Module) (rs : List Record) (ms : List Module) → gather (reverse_aux (module_records m) rs) [] [] [] ms ≡ gather rs [] [] [] (m ∷ ms)
unfolding gather module_records
module_gathered m rs ms = rw (modes_gathered m.modes (ml (length m.modes) ∷ rs) [] ms, append-nil m.modes)

modules_gathered : (ms : List Module) (rs : List Record) (ns : List Module) → gather (reverse_aux (joined module_records ms) rs) [] [] [] ns ≡ gather rs [] [] [] (ms ++ ns)
modules_gathered [] rs ns = refl
modules_gathered (m ∷ ms) rs ns =
    rw (reverse_aux-append (module_records m) (joined module_records ms) rs, modules_gathered ms (reverse_aux (module_records m) rs) ns) (module_gathered m rs (ms ++ ns))

-- The records read back are the value.
pub records_gathered : (s : Sheet) → gathered (reverse (records s)) ≡ s
unfolding gather records records_before_end
records_gathered s =
    rw (reverse_aux-append (joined module_records s.modules) (en (length (records_before_end s)) ∷ []) (hz s.horizon ∷ []), modules_gathered s.modules (hz s.horizon ∷ []) [], append-nil s.modules)

-- Soundness, level by level: what is known of the records read so far is carried along.

-- Of the last module's n modes j are open; N modules, T tasks and W switches are still to come.
record Figures (rs : List Record) (N T W n j : ℕ) : Type 0 where
  states : stated rs ≡ n
  sees : seen rs ≡ j
  modules : modules_read rs + N ≤ max_modules
  some : 1 ≤ modules_read rs + N
  tasks : length (taken of_tk rs) + T ≤ max_tasks
  switches : length (taken of_switch rs) + W ≤ max_switches

-- The records are sound, and more may follow.
record Read (rs : List Record) (N T W n j : ℕ) : Type 0 where
  sound : AllSound rs
  going : ended rs ≡ false
  begun : is_empty rs ≡ false
  figures : Figures rs N T W n j

-- The last mode has the period p, the tasks ks and the switches ws, each the last one first.
record InMode (rs : List Record) (p : ℕ) (ks : List Task) (ws : List Switch) : Type 0 where
  period : mode_period rs ≡ p
  tasks : tasks_read rs ≡ ks
  switches : switches_read rs ≡ ws

module _ {rs : List Record} {N T W n j N' T' W' n' j' : ℕ} (r : Read rs N T W n j) where
  refigured : Figures rs N' T' W' n' j' → Read rs N' T' W' n' j'
  refigured f = record { sound = r.sound; going = r.going; begun = r.begun; figures = f }

  read_next : {x : Record} → Sound rs x → ended (x ∷ rs) ≡ false → Figures (x ∷ rs) N' T' W' n' j' → Read (x ∷ rs) N' T' W' n' j'
  read_next s e f = record { sound = (r.sound, r.going, s); going = e; begun = refl; figures = f }

-- The tasks of a mode of the period p.

task_ruled_lem : (p : ℕ) (k : Task) → TaskRule p k → task_ruled p k ≡ true
unfolding task_ruled
task_ruled_lem p k h = rw (le-leb _ _ h.works, le-leb _ _ h.fits, le-leb _ _ h.within, le-leb 1 k.period (omega arith), eq-eqb _ _ h.divides)

module _ (N W n j p : ℕ) where
  task_read : (k : Task) (rs : List Record) (T : ℕ) (js : List Task) → Read rs N (suc T) W n (suc j) → InMode rs p js [] → TaskRule p k → length js < max_mode_tasks → Read (tk k ∷ rs) N T W n (suc j)
  unfolding ordered counted ruled
  task_read k rs T js r i h room =
      read_next r
      (record {
        order = rw (lt-ltb 0 (seen rs) (omega arith), i.switches);
        count = rw (i.tasks, lt-ltb _ _ room, lt-ltb (length (taken of_tk rs)) max_tasks (omega arith));
        value = rw i.period (task_ruled_lem p k h);
      })
      refl (omega arith)

  tasks_read_lem : (ks : List Task) (rs : List Record) (T : ℕ) (js : List Task)
      → Read rs N (length ks + T) W n (suc j) → InMode rs p js [] → All (TaskRule p) ks → length js + length ks ≤ max_mode_tasks
      → Read (reverse_aux (map tk ks) rs) N T W n (suc j) × InMode (reverse_aux (map tk ks) rs) p (reverse_aux ks js) []
  tasks_read_lem [] rs T js r i h room = (refigured r (omega arith), i)
  tasks_read_lem (k ∷ ks) rs T js r i h room =
      tasks_read_lem ks (tk k ∷ rs) T (k ∷ js)
      (task_read k rs (length ks + T) js (refigured r (omega arith)) i h.0 (omega arith))
      (record { period = i.period; tasks = ap (λ (l : List Task). k ∷ l) i.tasks; switches = i.switches })
      h.1
      (omega arith)

-- The switches of a mode.

-- a property of each is one of each in the other order
all_reversed : {A : Type 0} (P : A → Type 0) (xs ys : List A) → All P xs → All P ys → All P (reverse_aux xs ys)
all_reversed P [] ys h k = k
all_reversed P (x ∷ xs) ys h k = all_reversed P xs (x ∷ ys) h.1 (h.0, k)

-- the rule of a switch's kind passes its test for each task
each_ruled : (period p : ℕ) (kind : Kind) → 1 ≤ p → (ks : List Task) → All (TaskRule period) ks → All (KindRule kind period p) ks → each (kind_ruled kind period p) ks ≡ true
each_ruled period p kind least [] h d = refl
each_ruled period p kind least (k ∷ ks) h d = rw (kind_ruled_lem period p k h.0 least kind d.0, each_ruled period p kind least ks h.1 d.1)

-- the targets of the switches ws are not yet named by vs
abbrev Fresh : List Switch → List Switch → Type 0
Fresh vs ws = All (λ (w : Switch). named w.target vs ≡ false) ws

all_fresh : (ws : List Switch) → Fresh [] ws
all_fresh [] = tt
all_fresh (w ∷ ws) = (refl, all_fresh ws)

fresh_next : (w : Switch) (vs ws : List Switch) → All (λ t. w.target ≡ t → ⊥) (map (λ (v : Switch). v.target) ws) → Fresh vs ws → Fresh (w ∷ vs) ws
fresh_next w vs [] d f = tt
fresh_next w vs (v ∷ ws) d f = (rw (ne_eqb v.target w.target (λ e. d.0 (sym e)), f.0), fresh_next w vs ws d.1 f.1)

-- in the mode o, which has the number j, after its tasks
module _ (o : Mode) (n j N T : ℕ) (rules : All (TaskRule o.period) o.tasks) where
  -- the tasks of the mode, the last one first
  abbrev ks : List Task
  ks = reverse o.tasks

  switch_ruled_lem : (w : Switch) → SwitchRule n j o w → each (kind_ruled w.kind o.period w.period) ks ≡ true
  switch_ruled_lem w h =
      each_ruled o.period w.period w.kind h.positive ks (all_reversed (TaskRule o.period) o.tasks [] rules tt)
      (all_reversed (KindRule w.kind o.period w.period) o.tasks [] h.tasks tt)

  switch_read : (w : Switch) (rs : List Record) (W : ℕ) (vs : List Switch)
      → Read rs N T (suc W) n (suc j) → InMode rs o.period ks vs → SwitchRule n j o w → named w.target vs ≡ false → Read (sw w ∷ rs) N T W n (suc j)
  unfolding ordered counted ruled switch_ruled
  switch_read w rs W vs r i h new =
      read_next r
      (record {
        order = lt-ltb 0 (seen rs) (omega arith);
        count = lt-ltb (length (taken of_switch rs)) max_switches (omega arith);
        value =
            let there : w.target < stated rs = omega arith in
            let other : w.target + 1 ≡ seen rs → ⊥ = λ e. h.other (omega arith) in
            rw (lt-ltb _ _ there, ne_eqb _ _ other, i.switches, new, i.period, le-leb _ _ h.positive, eq-eqb _ _ h.divides, i.tasks, switch_ruled_lem w h);
      })
      refl (omega arith)

  switches_read_lem : (ws : List Switch) (rs : List Record) (W : ℕ) (vs : List Switch)
      → Read rs N T (length ws + W) n (suc j) → InMode rs o.period ks vs → All (SwitchRule n j o) ws → Distinct (map (λ (w : Switch). w.target) ws) → Fresh vs ws
      → Read (reverse_aux (map sw ws) rs) N T W n (suc j)
  switches_read_lem [] rs W vs r i h d f = refigured r (omega arith)
  switches_read_lem (w ∷ ws) rs W vs r i h d f =
      switches_read_lem ws (sw w ∷ rs) W (w ∷ vs)
      (switch_read w rs (length ws + W) vs (refigured r (omega arith)) i h.0 f.0)
      (record { period = i.period; tasks = i.tasks; switches = ap (λ (l : List Switch). w ∷ l) i.switches })
      h.1 d.1 (fresh_next w vs ws d.0 f.1)

-- The modes of a module, and the modules.

mode_read : (o : Mode) (rs : List Record) (N T W n j : ℕ) → Read rs N (length o.tasks + T) (length o.switches + W) n j → j < n → ModeRule n j o → Read (reverse_aux (mode_records o) rs) N T W n (suc j)
unfolding mode_records ordered counted ruled
mode_read o rs N T W n j r l h =
    let opened : List Record = md o.period ∷ rs in
    let s : Sound rs (md o.period) = record { order = lt-ltb (seen rs) (stated rs) (omega arith); count = refl; value = rw (le-leb _ _ h.least, le-leb _ _ h.most) } in
    let (t, i) = tasks_read_lem N (length o.switches + W) n j o.period o.tasks opened T [] (read_next r s refl (omega arith)) (record { period = refl; tasks = refl; switches = refl }) h.tasks (omega arith) in
    rw reverse_aux-append
    (switches_read_lem o n j N T h.tasks o.switches (reverse_aux (map tk o.tasks) opened) W [] t i h.switches h.once (all_fresh o.switches))

modes_read : (os : List Mode) (rs : List Record) (N T W n j : ℕ)
    → Read rs N (sum_of (λ (o : Mode). length o.tasks) os + T) (sum_of (λ (o : Mode). length o.switches) os + W) n j → j + length os ≡ n → AllFrom (ModeRule n) j os
    → Read (reverse_aux (joined mode_records os) rs) N T W n n
modes_read [] rs N T W n j r e h = refigured r (omega arith)
modes_read (o ∷ os) rs N T W n j r e h =
    let tasks : ℕ = sum_of (λ (o : Mode). length o.tasks) os + T in
    let switches : ℕ = sum_of (λ (o : Mode). length o.switches) os + W in
    rw reverse_aux-append
    (modes_read os (reverse_aux (mode_records o) rs) N T W n (suc j) (mode_read o rs N tasks switches n j (refigured r (omega arith)) (omega arith) h.0) (omega arith) h.1)

module_read : (m : Module) (rs : List Record) (N T W n : ℕ) → Read rs (suc N) (tasks_in m + T) (switches_in m + W) n n → ModuleRule m → Read (reverse_aux (module_records m) rs) N T W (length m.modes) (length m.modes)
unfolding module_records ordered counted ruled
module_read m rs N T W n r h =
    let s : Sound rs (ml (length m.modes)) =
    record {
      order = rw (r.begun, eq-eqb (seen rs) (stated rs) (omega arith));
      count = lt-ltb (modules_read rs) max_modules (omega arith);
      value = rw (le-leb _ _ h.least, le-leb _ _ h.most);
    } in
    modes_read m.modes (ml (length m.modes) ∷ rs) N T W (length m.modes) 0 (read_next r s refl (omega arith)) (omega arith) h.modes

modules_read_lem : (ms : List Module) (rs : List Record) (n : ℕ) → Read rs (length ms) (sum_of tasks_in ms) (sum_of switches_in ms) n n → All ModuleRule ms → (k : ℕ) × Read (reverse_aux (joined module_records ms) rs) 0 0 0 k k
modules_read_lem [] rs n r h = (n, r)
modules_read_lem (m ∷ ms) rs n r h =
    rw reverse_aux-append
    (modules_read_lem ms (reverse_aux (module_records m) rs) (length m.modes) (module_read m rs (length ms) (sum_of tasks_in ms) (sum_of switches_in ms) n r h.0) h.1)

-- The records of a well_formed value are sound.
pub records_sound : (s : Sheet) → WellFormed s → AllSound (reverse (records s))
unfolding records records_before_end ordered counted ruled
records_sound s h = rw reverse_aux-append (close (modules_read_lem s.modules (hz s.horizon ∷ []) 0 start h.modules))
  where
    start : Read (hz s.horizon ∷ []) (length s.modules) (sum_of tasks_in s.modules) (sum_of switches_in s.modules) 0 0
    start =
        record {
          sound = (tt, refl, record { order = refl; count = refl; value = rw (le-leb _ _ h.horizon_least, le-leb _ _ h.horizon_most) });
          going = refl;
          begun = refl;
          figures = omega arith;
        }

    before : List Record
    before = reverse_aux (joined module_records s.modules) (hz s.horizon ∷ [])

    all_counted : length (records_before_end s) ≡ length before
    all_counted = omega (arith, length-reverse_aux (joined module_records s.modules) (hz s.horizon ∷ []))

    close : (k : ℕ) × Read before 0 0 0 k k → AllSound (en (length (records_before_end s)) ∷ before)
    close r = (
      r.1.sound,
      r.1.going,
      record {
        order = rw (lt-ltb 0 (modules_read before) (omega arith), eq-eqb (seen before) (stated before) (omega arith));
        count = refl;
        value = eq-eqb _ _ all_counted;
      },
    )
