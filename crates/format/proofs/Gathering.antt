-- Sound records that end with EN are the records of the sheet gathered from them, and that sheet is well_formed. Assumes nothing.
use mathlib.Core.Path.{◌≡◌, refl, sym}
use mathlib.Core.Bool.{Bool, true, false, not, ◌||◌, false≢true, and-eq-true_iff}
use mathlib.Core.List.{List, [], ◌∷◌, ◌++◌, map, reverse, reverse_aux, reverse_aux-eq, append_assoc}
use Prim.Native.Nat.{ℕ, ◌+◌, ◌%◌, ◌≤◌, ◌<◌}
use native.Mathlib.Omega.{arith}
use lib.Dec.{leb, ltb, eqb}
use lib.ListN.{length, length-reverse}
use borrow.Author.Tests.{ltb-true, leb-true, eqb-true, eqb-false, not-true}
use Rattle.model.specs.Lists.{sum_of, All, AllFrom, Distinct}
use Rattle.model.specs.Sheet.{Task, Kind, SW, SX, Switch, Mode, Module, Sheet, Counts, counts, modes_in, tasks_in, switches_in, named}
use Rattle.model.specs.Limits.{max_horizon, max_modes, max_mode_period, max_mode_tasks}
use Rattle.model.specs.WellFormed.{TaskRule, KindRule, SwitchRule, ModeRule, ModuleRule, WellFormed}
use Rattle.format.specs.Record.{Record, hz, ml, md, tk, sw, en}
use Rattle.format.specs.Encoding.{joined, mode_records, module_records, records_before_end, records}
use Rattle.format.specs.Rules.{of_md, of_tk, of_switch, taken, modules_read, stated, seen, mode_period, tasks_read, switches_read, is_empty, ended, ordered, between, divides, each, task_ruled, kind_ruled, switch_ruled, ruled, Sound, AllSound}
use Rattle.format.specs.Judgement.{gather, gathered}
use Rattle.format.proofs.KindRules.{ruled_kind}
use Rattle.format.proofs.Sizes.{small}

-- What the tests tell.

neither : (a b : Bool) → (a || b) ≡ false → (a ≡ false) × (b ≡ false)
neither true b e = absurd (false≢true (sym e))
neither false b e = (refl, e)

inside : (least most n : ℕ) → between least most n ≡ true → (least ≤ n) × (n ≤ most)
inside least most n e =
    let p = (and-eq-true_iff _ _).0 e in
    (leb-true _ _ p.0, leb-true _ _ p.1)

divided : (p n : ℕ) → divides p n ≡ true → (1 ≤ p) × (n % p ≡ 0)
divided p n e =
    let d = (and-eq-true_iff (leb 1 p) (eqb (n % p) 0)).0 e in
    (leb-true _ _ d.0, eqb-true _ _ d.1)

-- a module or a mode is open only after some record
begun_by : (rs : List Record) → 0 < seen rs + (stated rs + modules_read rs) → is_empty rs ≡ false
begun_by [] h = absurd (omega arith)
begun_by (r ∷ rs) h = refl

all_to : {A : Type 0} {P Q : A → Type 0} → ((x : A) → P x → Q x) → (xs : List A) → All P xs → All Q xs
all_to f [] p = tt
all_to f (x ∷ xs) p = (f x p.0, all_to f xs p.1)

-- What is pending where the records rs are still to be gathered: tasks ks and switches ws of the mode that rs leave open, modes os of the module that they leave open, modules ms.

-- how many tasks and switches the modes have
abbrev mode_tasks : List Mode → ℕ
mode_tasks os = sum_of (λ (o : Mode). length o.tasks) os

abbrev mode_switches : List Mode → ℕ
mode_switches os = sum_of (λ (o : Mode). length o.switches) os

-- the records of what is pending
abbrev pending_records : List Task → List Switch → List Mode → List Module → List Record
pending_records ks ws os ms = map tk ks ++ (map sw ws ++ (joined mode_records os ++ joined module_records ms))

-- tasks and switches only in an open mode, and tasks before its switches
abbrev TasksFit : List Task → ℕ → List Switch → Type 0
TasksFit [] opened before = Unit {0}
TasksFit (k ∷ ks) opened before = (0 < opened) × (is_empty before ≡ true)

abbrev SwitchesFit : List Switch → ℕ → Type 0
SwitchesFit [] opened = Unit {0}
SwitchesFit (w ∷ ws) opened = 0 < opened

-- what is pending may follow the records
record Fits (rs : List Record) (ks : List Task) (ws : List Switch) (os : List Mode) : Type 0 where
  begun : is_empty rs ≡ false
  open_end : ended rs ≡ false
  tasks : TasksFit ks (seen rs) (switches_read rs)
  switches : SwitchesFit ws (seen rs)
  modes : seen rs + length os ≡ stated rs

-- a switch read after the records rs and the tasks ks of its mode
record SwitchKept (rs : List Record) (ks : List Task) (w : Switch) : Type 0 where
  there : w.target < stated rs
  other : w.target + 1 ≡ seen rs → ⊥
  positive : 1 ≤ w.period
  divides : mode_period rs % w.period ≡ 0
  tasks : All (KindRule w.kind (mode_period rs) w.period) ks
  tasks_before : each (kind_ruled w.kind (mode_period rs) w.period) (tasks_read rs) ≡ true
  new : named w.target (switches_read rs) ≡ false

-- what is pending keeps the rules after the records
record Kept (rs : List Record) (ks : List Task) (ws : List Switch) (os : List Mode) (ms : List Module) : Type 0 where
  count : length ks + length (tasks_read rs) ≤ max_mode_tasks
  tasks : All (TaskRule (mode_period rs)) ks
  switches : All (SwitchKept rs ks) ws
  once : Distinct (map (λ (w : Switch). w.target) ws)
  modes : AllFrom (ModeRule (stated rs)) (seen rs) os
  modules : All ModuleRule ms

task_rule : (period : ℕ) (k : Task) → task_ruled period k ≡ true → TaskRule period k
unfolding task_ruled
task_rule period k e =
    let fourth = (and-eq-true_iff _ (divides k.period period)).0 e in
    let third = (and-eq-true_iff _ _).0 fourth.0 in
    let second = (and-eq-true_iff _ _).0 third.0 in
    record { works = leb-true _ _ second.0; fits = leb-true _ _ second.1; within = leb-true _ _ third.1; divides = (divided k.period period fourth.1).1 }

-- a switch of either kind has a target that is not yet named
new_target : (rs : List Record) (kind : Kind) (target period : ℕ) → switch_ruled rs (record { kind = kind; target = target; period = period }) ≡ true → named target (switches_read rs) ≡ false
unfolding switch_ruled
new_target rs SW target period e = not-true _ (simp and-eq-true_iff at e).0.0.1
new_target rs SX target period e = not-true _ (simp and-eq-true_iff at e).0.0.1

switch_rule : (rs : List Record) (w : Switch) → switch_ruled rs w ≡ true → SwitchKept rs [] w
unfolding switch_ruled
switch_rule rs w e =
    let fifth = (and-eq-true_iff _ _).0 e in
    let fourth = (and-eq-true_iff _ (divides w.period (mode_period rs))).0 fifth.0 in
    let third = (and-eq-true_iff _ _).0 fourth.0 in
    let second = (and-eq-true_iff _ _).0 third.0 in
    let d = divided w.period (mode_period rs) fourth.1 in
    record {
      there = ltb-true _ _ second.0;
      other = eqb-false _ _ (not-true _ second.1);
      positive = d.0;
      divides = d.1;
      tasks = tt;
      tasks_before = fifth.1;
      new = new_target rs w.kind w.target w.period e;
    }

-- What is shown of the sheet s that is gathered then: its records in order, its rules and its totals.
record Gathers (rs : List Record) (ks : List Task) (ws : List Switch) (os : List Mode) (ms : List Module) (s : Sheet) : Type 0 where
  order : records_before_end s ≡ reverse_aux rs (pending_records ks ws os ms)
  horizon : (1 ≤ s.horizon) × (s.horizon ≤ max_horizon)
  rules : All ModuleRule s.modules
  modules : length s.modules ≡ modules_read rs + length ms
  modes : (counts s).modes ≡ length (taken of_md rs) + (length os + sum_of modes_in ms)
  tasks : (counts s).tasks ≡ length (taken of_tk rs) + (length ks + (mode_tasks os + sum_of tasks_in ms))
  switches : (counts s).switches ≡ length (taken of_switch rs) + (length ws + (mode_switches os + sum_of switches_in ms))

-- One record gathered, by its mark: the lists that are pending then are in order and keep the rules, and what is shown with them is shown with those before.

-- where nothing of an open mode is pending
no_mode : (rs : List Record) (os : List Mode) → is_empty rs ≡ false → ended rs ≡ false → seen rs + length os ≡ stated rs → Fits rs [] [] os
no_mode rs os b e m = record { begun = b; open_end = e; tasks = tt; switches = tt; modes = m }

no_mode_kept : (rs : List Record) (os : List Mode) (ms : List Module) → AllSound rs → AllFrom (ModeRule (stated rs)) (seen rs) os → All ModuleRule ms → Kept rs [] [] os ms
no_mode_kept rs os ms a o m =
    record { count = omega (arith, (small rs a).mode_tasks_lem); tasks = tt; switches = tt; once = tt; modes = o; modules = m }

-- HZ is the first, and only modules are pending.
at_hz : (h : ℕ) (ms : List Module) → Sound [] (hz h) → All ModuleRule ms → Gathers (hz h ∷ []) [] [] [] ms (record { horizon = h; modules = ms })
unfolding ruled records_before_end
at_hz h ms s m = record { order = refl; horizon = inside 1 max_horizon h s.value; rules = m; modules = omega arith; modes = omega arith; tasks = omega arith; switches = omega arith }

-- ML: the modes that are pending are its module, as many as it states.
module _ (n : ℕ) (rs : List Record) (os : List Mode) (ms : List Module) (s : Sheet) where
  abbrev closed_module : Module
  closed_module = record { modes = os }

  at_ml : AllSound (ml n ∷ rs) → Fits (ml n ∷ rs) [] [] os → Kept (ml n ∷ rs) [] [] os ms →
      (Fits rs [] [] [] → Kept rs [] [] [] (closed_module ∷ ms) → Gathers rs [] [] [] (closed_module ∷ ms) s) → Gathers (ml n ∷ rs) [] [] os ms s
  unfolding ordered ruled module_records
  at_ml a f v next =
      let o : (not (is_empty rs) ≡ true) × (eqb (seen rs) (stated rs) ≡ true) = (and-eq-true_iff _ _).0 a.2.order in
      let m : length os ≡ n = omega (arith, f.modes) in
      let r : (1 ≤ n) × (n ≤ max_modes) = inside 1 max_modes n a.2.value in
      let rule : ModuleRule closed_module = record { least = omega arith; most = omega arith; modes = rw m v.modes } in
      let g = next (no_mode rs [] (not-true _ o.0) a.1 (omega (arith, eqb-true))) (no_mode_kept rs [] (closed_module ∷ ms) a.0 tt (rule, v.modules)) in
      record { order = rw m at g.order; horizon = g.horizon; rules = g.rules; modules = omega (arith, g.modules); modes = omega (arith, g.modes); tasks = omega (arith, g.tasks); switches = omega (arith, g.switches) }

-- MD: the tasks and switches that are pending are its mode.
module _ (p : ℕ) (rs : List Record) (ks : List Task) (ws : List Switch) (os : List Mode) (ms : List Module) (s : Sheet) where
  abbrev closed_mode : Mode
  closed_mode = record { period = p; tasks = ks; switches = ws }

  switch_closed : (w : Switch) → SwitchKept (md p ∷ rs) ks w → SwitchRule (stated rs) (seen rs) closed_mode w
  switch_closed w k = record { there = k.there; other = λ e. k.other (omega arith); positive = k.positive; divides = k.divides; tasks = k.tasks }

  at_md : AllSound (md p ∷ rs) → Fits (md p ∷ rs) ks ws os → Kept (md p ∷ rs) ks ws os ms →
      (Fits rs [] [] (closed_mode ∷ os) → Kept rs [] [] (closed_mode ∷ os) ms → Gathers rs [] [] (closed_mode ∷ os) ms s) → Gathers (md p ∷ rs) ks ws os ms s
  unfolding ordered ruled mode_records
  at_md a f v next =
      let o : seen rs < stated rs = ltb-true _ _ a.2.order in
      let r : (1 ≤ p) × (p ≤ max_mode_period) = inside 1 max_mode_period p a.2.value in
      let rule : ModeRule (stated rs) (seen rs) closed_mode =
      record { least = r.0; most = r.1; count = omega (arith, v.count); tasks = v.tasks; switches = all_to switch_closed ws v.switches; once = v.once } in
      let g = next (no_mode rs (closed_mode ∷ os) (begun_by rs (omega arith)) a.1 (omega (arith, f.modes))) (no_mode_kept rs (closed_mode ∷ os) ms a.0 (rule, v.modes) v.modules) in
      record { order = simp append_assoc at g.order; horizon = g.horizon; rules = g.rules; modules = g.modules; modes = omega (arith, g.modes); tasks = omega (arith, g.tasks); switches = omega (arith, g.switches) }

-- TK: one task more is pending.
module _ (k : Task) (rs : List Record) (ks : List Task) (ws : List Switch) (os : List Mode) (ms : List Module) (s : Sheet) where
  switch_after_task : TaskRule (mode_period rs) k → (w : Switch) → SwitchKept (tk k ∷ rs) ks w → SwitchKept rs (k ∷ ks) w
  switch_after_task rule w c =
      let d = (and-eq-true_iff (kind_ruled w.kind (mode_period rs) w.period k) (each (kind_ruled w.kind (mode_period rs) w.period) (tasks_read rs))).0 c.tasks_before in
      record {
        there = c.there;
        other = c.other;
        positive = c.positive;
        divides = c.divides;
        tasks = (ruled_kind (mode_period rs) w.period k rule c.positive w.kind d.0, c.tasks);
        tasks_before = d.1;
        new = c.new;
      }

  at_tk : AllSound (tk k ∷ rs) → Fits (tk k ∷ rs) ks ws os → Kept (tk k ∷ rs) ks ws os ms →
      (Fits rs (k ∷ ks) ws os → Kept rs (k ∷ ks) ws os ms → Gathers rs (k ∷ ks) ws os ms s) → Gathers (tk k ∷ rs) ks ws os ms s
  unfolding ordered ruled
  at_tk a f v next =
      let o : (ltb 0 (seen rs) ≡ true) × (is_empty (switches_read rs) ≡ true) = (and-eq-true_iff _ _).0 a.2.order in
      let h : 0 < seen rs = ltb-true _ _ o.0 in
      let rule : TaskRule (mode_period rs) k = task_rule (mode_period rs) k a.2.value in
      let fits : Fits rs (k ∷ ks) ws os =
      record { begun = begun_by rs (omega arith); open_end = a.1; tasks = (h, o.1); switches = f.switches; modes = f.modes } in
      let kept : Kept rs (k ∷ ks) ws os ms =
      record {
        count = omega (arith, v.count);
        tasks = (rule, v.tasks);
        switches = all_to (switch_after_task rule) ws v.switches;
        once = v.once;
        modes = v.modes;
        modules = v.modules;
      } in
      let g = next fits kept in
      record { order = g.order; horizon = g.horizon; rules = g.rules; modules = g.modules; modes = g.modes; tasks = omega (arith, g.tasks); switches = g.switches }

-- SW and SX: one switch more is pending, with a target of its own, and no task.
module _ (w : Switch) (rs : List Record) (ws : List Switch) (os : List Mode) (ms : List Module) (s : Sheet) where
  named_apart : (x : Switch) → SwitchKept (sw w ∷ rs) [] x → (eqb x.target w.target ≡ false) × (named x.target (switches_read rs) ≡ false)
  named_apart x c = neither _ _ c.new

  switch_after_switch : (x : Switch) → SwitchKept (sw w ∷ rs) [] x → SwitchKept rs [] x
  switch_after_switch x c =
      record {
        there = c.there;
        other = c.other;
        positive = c.positive;
        divides = c.divides;
        tasks = tt;
        tasks_before = c.tasks_before;
        new = (named_apart x c).1;
      }

  targets_apart : (xs : List Switch) → All (SwitchKept (sw w ∷ rs) []) xs → All (λ y. w.target ≡ y → ⊥) (map (λ (x : Switch). x.target) xs)
  targets_apart [] c = tt
  targets_apart (x ∷ xs) c = (λ e. eqb-false _ _ (named_apart x c.0).0 (sym e), targets_apart xs c.1)

  at_sw : AllSound (sw w ∷ rs) → Fits (sw w ∷ rs) [] ws os → Kept (sw w ∷ rs) [] ws os ms →
      (Fits rs [] (w ∷ ws) os → Kept rs [] (w ∷ ws) os ms → Gathers rs [] (w ∷ ws) os ms s) → Gathers (sw w ∷ rs) [] ws os ms s
  unfolding ordered ruled
  at_sw a f v next =
      let h : 0 < seen rs = ltb-true _ _ a.2.order in
      let fits : Fits rs [] (w ∷ ws) os =
      record { begun = begun_by rs (omega arith); open_end = a.1; tasks = tt; switches = h; modes = f.modes } in
      let kept : Kept rs [] (w ∷ ws) os ms =
      record {
        count = v.count;
        tasks = tt;
        switches = (switch_rule rs w a.2.value, all_to switch_after_switch ws v.switches);
        once = (targets_apart ws v.switches, v.once);
        modes = v.modes;
        modules = v.modules;
      } in
      let g = next fits kept in
      record { order = g.order; horizon = g.horizon; rules = g.rules; modules = g.modules; modes = g.modes; tasks = g.tasks; switches = omega (arith, g.switches) }

-- All of them. A list that is pending where its mark cannot be next contradicts the order.
gathers : (rs : List Record) (ks : List Task) (ws : List Switch) (os : List Mode) (ms : List Module) → AllSound rs → Fits rs ks ws os → Kept rs ks ws os ms → Gathers rs ks ws os ms (gather rs ks ws os ms)
unfolding gather ordered
gathers [] ks ws os ms a f v = absurd (false≢true (sym f.begun))
gathers (hz h ∷ (r ∷ rs)) ks ws os ms a f v = absurd (false≢true a.2.order)
gathers (hz h ∷ []) (k ∷ ks) ws os ms a f v = absurd (omega (arith, f.tasks.0))
gathers (hz h ∷ []) [] (w ∷ ws) os ms a f v = absurd (omega (arith, f.switches))
gathers (hz h ∷ []) [] [] (o ∷ os) ms a f v = absurd (omega (arith, f.modes))
gathers (hz h ∷ []) [] [] [] ms a f v = at_hz h ms a.2 v.modules
gathers (ml n ∷ rs) (k ∷ ks) ws os ms a f v = absurd (omega (arith, f.tasks.0))
gathers (ml n ∷ rs) [] (w ∷ ws) os ms a f v = absurd (omega (arith, f.switches))
gathers (ml n ∷ rs) [] [] os ms a f v = at_ml n rs os ms _ a f v (gathers rs [] [] [] _ a.0)
gathers (md p ∷ rs) ks ws os ms a f v = at_md p rs ks ws os ms _ a f v (gathers rs [] [] _ ms a.0)
gathers (tk k ∷ rs) ks ws os ms a f v = at_tk k rs ks ws os ms _ a f v (gathers rs (k ∷ ks) ws os ms a.0)
gathers (sw w ∷ rs) (k ∷ ks) ws os ms a f v = absurd (false≢true f.tasks.1)
gathers (sw w ∷ rs) [] ws os ms a f v = at_sw w rs ws os ms _ a f v (gathers rs [] (w ∷ ws) os ms a.0)
gathers (en n ∷ rs) ks ws os ms a f v = absurd (false≢true (sym f.open_end))

-- how many of each have been read
abbrev pub counts_read : List Record → Counts
counts_read rs =
    record {
      modules = modules_read rs;
      modes = length (taken of_md rs);
      tasks = length (taken of_tk rs);
      switches = length (taken of_switch rs);
    }

-- The laws: at EN nothing is pending.
module _ (rs : List Record) (n : ℕ) (a : AllSound (en n ∷ rs)) where
  at_end : (0 < modules_read rs) × (seen rs ≡ stated rs)
  unfolding ordered
  at_end =
      let o = (and-eq-true_iff _ _).0 a.2.order in
      (ltb-true _ _ o.0, eqb-true _ _ o.1)

  all_gathered : Gathers rs [] [] [] [] (gathered (en n ∷ rs))
  unfolding gather
  all_gathered =
      gathers rs [] [] [] [] a.0
      (no_mode rs [] (begun_by rs (omega (arith, at_end.0))) a.1 (omega (arith, at_end.1)))
      (no_mode_kept rs [] [] a.0 tt tt)

  pub gathered_records : records (gathered (en n ∷ rs)) ≡ reverse (en n ∷ rs)
  unfolding records ruled
  gathered_records =
      let l : n ≡ length rs = eqb-true _ _ a.2.value in
      rw (all_gathered.order, length-reverse, ← l, ← reverse_aux-eq)

  pub gathered_well_formed : WellFormed (gathered (en n ∷ rs))
  gathered_well_formed =
      let g = all_gathered in
      let w = small rs a.0 in
      record {
        horizon_least = g.horizon.0;
        horizon_most = g.horizon.1;
        modules_least = omega (arith, g.modules, at_end.0);
        modules_most = omega (arith, g.modules, w.modules);
        modules = g.rules;
        tasks_most = omega (arith, g.tasks, w.tasks);
        switches_most = omega (arith, g.switches, w.switches);
      }

  pub gathered_counts : counts (gathered (en n ∷ rs)) ≡ counts_read rs
  gathered_counts =
      let g = all_gathered in
      let modules : (counts (gathered (en n ∷ rs))).modules ≡ modules_read rs = omega (arith, g.modules) in
      let modes : (counts (gathered (en n ∷ rs))).modes ≡ length (taken of_md rs) = omega (arith, g.modes) in
      let tasks : (counts (gathered (en n ∷ rs))).tasks ≡ length (taken of_tk rs) = omega (arith, g.tasks) in
      let switches : (counts (gathered (en n ∷ rs))).switches ≡ length (taken of_switch rs) = omega (arith, g.switches) in
      rw (modules, modes, tasks, switches)
