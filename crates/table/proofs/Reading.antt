-- How the rows and the numbers are read: the tasks of a mode between two starts, and the switches of a mode by their targets. Assumes nothing.
use mathlib.Core.Path.{◌≡◌, sym, ◌∙◌, ap}
use mathlib.Core.Bool.{true, false}
use mathlib.Core.List.Memᴰ
use mathlib.Core.List.{List, [], ◌∷◌, ◌++◌, map, Memᴰ}
use Prim.Native.Nat.{ℕ, suc, ◌+◌, ◌*◌, ◌/◌, ◌%◌, ◌≤◌, ◌<◌}
use native.Mathlib.Numerals.{add-one}
use native.Mathlib.Omega.{arith}
use lib.Dec.{eqb}
use lib.ListN.{length, get_or, take, drop, length-drop, take-append-drop, get_or-append}
use lib.Seq.{drop-cons, get_or-take, get_or-drop, get_or-append-add, ext_get_or, length-take-le}
use borrow.Author.Tests.{eq-eqb, ne_eqb}
use Rattle.model.specs.Lists.{All, Distinct}
use Rattle.model.specs.Sheet.{Task, Switch, Mode, Module, module_at, named}
use Rattle.model.specs.Run.{mode_at, idle}
use Rattle.format.specs.Judgement.{sheet_in, Accepted}
use Rattle.format.proofs.Bytes.{joined_append}
use Rattle.format.proofs.RoundTrip.{accepted_well_formed}
use Rattle.table.specs.Rows.{period_to, switch_period_at, switch_listed_at, RowOf, no_row, RowsOf}
use Rattle.model.specs.Flat.{task_numbers}
use Rattle.model.proofs.Flat.{length_task_numbers}
use Rattle.table.specs.Numbers.{mode_numbers, start_of, TasksOf}
use Rattle.table.specs.declared.ModuleRow.{ModuleRow}
use Rattle.table.specs.declared.Tasks.{Tasks}
use Rattle.table.proofs.Numbering.{start_step, start_most, modes_few}

-- Tasks.

-- the numbers of a mode stand between those before it and those behind it
numbers_split : (m : Module) (j : ℕ) → j < length m.modes → mode_numbers m.modes ≡ mode_numbers (take j m.modes) ++ (task_numbers (mode_at m j).tasks ++ mode_numbers (drop (suc j) m.modes))
numbers_split m j l =
    let numbers : Mode → List ℕ = λ o. task_numbers o.tasks in
    ap mode_numbers (sym (take-append-drop j m.modes)) ∙ joined_append numbers (take j m.modes) (drop j m.modes) ∙ rw (drop-cons m.modes j idle l)

module _ (bs : List ℕ) (accepted : Accepted bs) (k : ℕ) (number : k < length (sheet_in bs).modules) (r : Tasks) (h : TasksOf (module_at (sheet_in bs) k) r)
    (j : ℕ) (mode : j < length (module_at (sheet_in bs) k).modes) where
  start_here : get_or r.starts j 0 ≡ start_of (module_at (sheet_in bs) k) j
  start_here = h.starts.each j (omega (arith, modes_few bs accepted k number))

  -- The tasks of the mode j end where those of the next begin ..
  pub tasks_end : get_or r.starts (j + 1) 0 ≡ get_or r.starts j 0 + 4 * length (mode_at (module_at (sheet_in bs) k) j).tasks
  tasks_end =
      h.starts.each (j + 1) (omega (arith, modes_few bs accepted k number))
      ∙ rw (add-one j) (omega (arith, start_step (module_at (sheet_in bs) k) j mode, start_here))

  inside : start_of (module_at (sheet_in bs) k) j + 4 * length (mode_at (module_at (sheet_in bs) k) j).tasks ≤ 512
  inside = omega (arith, start_step (module_at (sheet_in bs) k) j mode, start_most bs accepted k number (suc j) mode, modes_few bs accepted k number)

  pub tasks_within : get_or r.starts (j + 1) 0 ≤ length r.numbers
  tasks_within = omega (arith, tasks_end, start_here, inside, h.numbers.size)

  -- .. and each number of them stands in its place, ..
  pub task_number : (i : ℕ) → i < 4 * length (mode_at (module_at (sheet_in bs) k) j).tasks → get_or r.numbers (get_or r.starts j 0 + i) 0 ≡ get_or (task_numbers (mode_at (module_at (sheet_in bs) k) j).tasks) i 0
  task_number i l =
      let m : Module = module_at (sheet_in bs) k in
      let before : List ℕ = mode_numbers (take j m.modes) in
      let behind : List ℕ = mode_numbers (drop (suc j) m.modes) in
      let ns : List ℕ = task_numbers (mode_at m j).tasks in
      rw (start_here)
      (h.numbers.each (start_of m j + i) (omega (arith, inside))
      ∙ rw (numbers_split m j mode)
      (get_or-append-add before (ns ++ behind) i 0 ∙ get_or-append ns behind 0 i (omega (arith, length_task_numbers (mode_at m j).tasks))))

  -- .. so that they are the mode's.
  pub mode_tasks_lem : take (4 * length (mode_at (module_at (sheet_in bs) k) j).tasks) (drop (get_or r.starts j 0) r.numbers) ≡ task_numbers (mode_at (module_at (sheet_in bs) k) j).tasks
  mode_tasks_lem =
      let ks : List Task = (mode_at (module_at (sheet_in bs) k) j).tasks in
      let at : ℕ = get_or r.starts j 0 in
      let room : 4 * length ks ≤ length (drop at r.numbers) = omega (arith, length-drop at r.numbers, h.numbers.size, start_here, inside) in
      let long : length (take (4 * length ks) (drop at r.numbers)) ≡ 4 * length ks = length-take-le (4 * length ks) (drop at r.numbers) room in
      ext_get_or 0 (take (4 * length ks) (drop at r.numbers)) (task_numbers ks) (long ∙ sym (length_task_numbers ks))
      (λ i l. let small : i < 4 * length ks = omega arith in get_or-take (4 * length ks) (drop at r.numbers) i 0 small ∙ get_or-drop at r.numbers i 0 ∙ task_number i small)

-- Switches.

-- at 8 * j + t stands what concerns the switch of the mode j to the mode t
pub switch_period_at_lem : (m : Module) (j t : ℕ) → t < 8 → switch_period_at m (8 * j + t) ≡ period_to t (mode_at m j).switches
switch_period_at_lem m j t l =
    let mode : (8 * j + t) / 8 ≡ j = omega arith in
    let target : (8 * j + t) % 8 ≡ t = omega arith in
    rw (mode, target)

pub switch_listed_at_lem : (m : Module) (j t : ℕ) → t < 8 → switch_listed_at m (8 * j + t) ≡ named t (mode_at m j).switches
switch_listed_at_lem m j t l =
    let mode : (8 * j + t) / 8 ≡ j = omega arith in
    let target : (8 * j + t) % 8 ≡ t = omega arith in
    rw (mode, target)

-- a target that stands in the list is no other's
apart : (t : ℕ) (w : Switch) (ws : List Switch) → All (λ u. t ≡ u → ⊥) (map (λ (v : Switch). v.target) ws) → Memᴰ w ws → t ≡ w.target → ⊥
apart t w [] a i q = elim i [ ]
apart t w (v ∷ ws) a (Memᴰ.head e) q = a.0 (rw (e) at q)
apart t w (v ∷ ws) a (Memᴰ.tail h) q = apart t w ws a.1 h q

-- in a list that names each target once, a switch is the first that names its target
pub switch_period : (w : Switch) (ws : List Switch) → Distinct (map (λ (v : Switch). v.target) ws) → Memᴰ w ws → period_to w.target ws ≡ w.period
switch_period w [] d h = absurd (Memᴰ.not-nil h)
switch_period w (v ∷ ws) d (Memᴰ.head e) = let same : eqb w.target v.target ≡ true = eq-eqb _ _ (ap (λ (u : Switch). u.target) e) in rw same (ap (λ (u : Switch). u.period) (sym e))
switch_period w (v ∷ ws) d (Memᴰ.tail h) =
    let other : eqb w.target v.target ≡ false = ne_eqb _ _ (λ e. apart v.target w ws d.0 h (sym e)) in
    rw other (switch_period w ws d.1 h)

-- Rows.

-- of all rows those of the number k are the module's
pub row_of_module : (bs : List ℕ) → Accepted bs → (k : ℕ) → k < length (sheet_in bs).modules → {rows : List ModuleRow} → RowsOf (sheet_in bs) rows
    → RowOf (module_at (sheet_in bs) k) (get_or rows k no_row)
row_of_module bs accepted k number rows = rows.each k (omega (arith, (accepted_well_formed bs (sheet_in bs) accepted).modules_most))
