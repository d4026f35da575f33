-- The tasks of a module as numbers: how many there are, and where each stands in the bytes of an accepted sheet. Assumes nothing.
use mathlib.Core.Path.{◌≡◌, sym, ◌∙◌, ap}
use mathlib.Core.List.{List, [], ◌∷◌, ◌++◌, append-nil}
use Prim.Native.Nat.{ℕ, zero, suc, ◌+◌, ◌*◌, ◌/◌, ◌%◌, ◌≤◌, ◌<◌, min}
use native.Mathlib.Decide.{dec_lt}
use native.Mathlib.Omega.{arith}
use lib.ListN.{length, get_or, take, length-append}
use lib.Seq.{take-suc, take_all, take-length}
use Rattle.model.specs.Sheet.{Task, Mode, Module, module_at}
use Rattle.model.specs.Run.{mode_at, idle}
use Rattle.model.specs.WellFormed.{ModeRule, ModuleRule}
use Rattle.model.proofs.Lists.{all_at, all_from_at}
use Rattle.format.specs.Record.{TK, tk, fields_of, field_at, record_at}
use Rattle.format.specs.Judgement.{sheet_in, Accepted}
use Rattle.format.specs.Refusal.{AreBytes}
use Rattle.format.specs.Place.{mode_place}
use Rattle.format.proofs.Bytes.{joined_append}
use Rattle.format.proofs.RoundTrip.{accepted_well_formed}
use Rattle.place.specs.There.{ModeThere}
use Rattle.place.proofs.Standing.{task_record}
use Rattle.model.specs.Flat.{task_numbers}
use Rattle.model.proofs.Flat.{length_task_numbers}
use Rattle.table.specs.Numbers.{mode_numbers, start_of}

-- How many.

-- the numbers of one mode more
pub numbers_step : (m : Module) (j : ℕ) → j < length m.modes → mode_numbers (take (suc j) m.modes) ≡ mode_numbers (take j m.modes) ++ task_numbers (mode_at m j).tasks
numbers_step m j h =
    let numbers : Mode → List ℕ = λ o. task_numbers o.tasks in
    rw (take-suc m.modes j idle h, joined_append numbers (take j m.modes) (mode_at m j ∷ []), append-nil (task_numbers (mode_at m j).tasks))

pub start_step : (m : Module) (j : ℕ) → j < length m.modes → start_of m (suc j) ≡ start_of m j + 4 * length (mode_at m j).tasks
start_step m j h =
    ap length (numbers_step m j h)
    ∙ length-append (mode_numbers (take j m.modes)) (task_numbers (mode_at m j).tasks)
    ∙ omega (arith, length_task_numbers (mode_at m j).tasks)

-- past the modes
start_past : (m : Module) (j : ℕ) → length m.modes ≤ j → start_of m j ≡ start_of m (length m.modes)
start_past m j h = rw (take_all j m.modes h, take-length m.modes)

-- where it begins, looked up no further than where all end
pub start_min : (m : Module) (j : ℕ) → start_of m (min j (length m.modes)) ≡ start_of m j
start_min m j = pick (dec_lt j (length m.modes))
  where
    pick : Dec (j < length m.modes) → start_of m (min j (length m.modes)) ≡ start_of m j
    pick (yes l) = let e : min j (length m.modes) ≡ j = omega arith in ap (start_of m) e
    pick (no l) = let e : min j (length m.modes) ≡ length m.modes = omega arith in ap (start_of m) e ∙ sym (start_past m j (omega arith))

module _ (bs : List ℕ) (accepted : Accepted bs) (k : ℕ) (number : k < length (sheet_in bs).modules) where
  rule : ModuleRule (module_at (sheet_in bs) k)
  rule = all_at ModuleRule (record { modes = [] }) (sheet_in bs).modules (accepted_well_formed bs (sheet_in bs) accepted).modules k number

  pub modes_few : length (module_at (sheet_in bs) k).modes ≤ 8
  modes_few = rule.most

  pub tasks_few : (j : ℕ) → j < length (module_at (sheet_in bs) k).modes → length (mode_at (module_at (sheet_in bs) k) j).tasks ≤ 16
  tasks_few j h = let m : Module = module_at (sheet_in bs) k in (all_from_at (ModeRule (length m.modes)) idle 0 m.modes rule.modes j h).count

  -- 16 tasks in a mode, four numbers each
  pub start_most : (j : ℕ) → j ≤ length (module_at (sheet_in bs) k).modes → start_of (module_at (sheet_in bs) k) j ≤ 64 * j
  start_most zero h = omega arith
  start_most (suc j) h = omega (arith, start_step (module_at (sheet_in bs) k) j (omega arith), tasks_few j (omega arith), start_most j (omega arith))

-- Where each stands.

-- the tasks stand from q on, ten bytes each
number_at : (bs : List ℕ) (ks : List Task) (q : ℕ) → ((t : ℕ) (d : Task) → t < length ks → record_at TK bs (q + 10 * t) ≡ tk (get_or ks t d)) → (i : ℕ) → i < 4 * length ks
    → field_at bs (q + 2 + 10 * (i / 4) + 2 * (i % 4)) ≡ get_or (task_numbers ks) i 0
number_at bs [] q h i l = absurd (omega arith)
number_at bs (k ∷ ks) q h zero l = ap (field_at bs) (omega arith) ∙ ap (λ r. get_or (fields_of r) 0 0) (h 0 k (omega arith))
number_at bs (k ∷ ks) q h (suc zero) l = ap (field_at bs) (omega arith) ∙ ap (λ r. get_or (fields_of r) 1 0) (h 0 k (omega arith))
number_at bs (k ∷ ks) q h (suc (suc zero)) l = ap (field_at bs) (omega arith) ∙ ap (λ r. get_or (fields_of r) 2 0) (h 0 k (omega arith))
number_at bs (k ∷ ks) q h (suc (suc (suc zero))) l = ap (field_at bs) (omega arith) ∙ ap (λ r. get_or (fields_of r) 3 0) (h 0 k (omega arith))
number_at bs (k ∷ ks) q h (suc (suc (suc (suc i)))) l =
    ap (field_at bs) (omega arith) ∙ number_at bs ks (q + 10) (λ t d s. ap (record_at TK bs) (omega arith) ∙ h (suc t) d (omega arith)) i (omega arith)

module _ (bs : List ℕ) (accepted : Accepted bs) (bytes : AreBytes bs) (k j p : ℕ) (there : ModeThere (sheet_in bs) k j p) (i : ℕ) (small : i < 4 * length (mode_at (module_at (sheet_in bs) k) j).tasks) where
  pub number_there : field_at bs (p + 6 + 10 * (i / 4) + 2 * (i % 4)) ≡ get_or (task_numbers (mode_at (module_at (sheet_in bs) k) j).tasks) i 0
  number_there =
      let ks : List Task = (mode_at (module_at (sheet_in bs) k) j).tasks in
      let q : ℕ = mode_place (sheet_in bs) k j + 4 in
      let same : p ≡ mode_place (sheet_in bs) k j = there.place in
      ap (field_at bs) (omega arith) ∙ number_at bs ks q (λ t d l. task_record bs accepted bytes k there.number j there.mode t d l) i small
