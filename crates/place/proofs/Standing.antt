-- What stands in the bytes of an accepted sheet at the places of its modules, modes, tasks and switches. Assumes nothing.
use mathlib.Core.Path.{◌≡◌, refl, sym, ◌∙◌, ap}
use mathlib.Core.List.{List, [], ◌∷◌, ◌++◌, map, append-nil, append_assoc}
use Prim.Native.Nat.{ℕ, zero, suc, ◌+◌, ◌*◌, ◌/◌, ◌≤◌, ◌<◌}
use native.Mathlib.Nat.{add-zero, add_assoc, le_of_suc-le-suc}
use native.Mathlib.Omega.{arith}
use lib.ListN.{length, get_or, take, drop, length-append, length-drop}
use lib.Seq.{drop-length, length-take-le, drop-cons, drop-drop, drop_at, get_or-drop}
use Rattle.model.specs.Lists.{sum_of}
use Rattle.model.specs.Sheet.{Task, Kind, SW, SX, Switch, Mode, Module, Sheet, module_at}
use Rattle.model.specs.Run.{mode_at, idle}
use Rattle.format.specs.Record.{Mark, HZ, ML, MD, TK, switch, EN, Record, hz, ml, md, tk, sw, en, mark_of, size, code, field_at, record_at}
use Rattle.format.specs.Encoding.{joined, mode_records, module_records, records_before_end, records, record_bytes, encode}
use Rattle.format.specs.Judgement.{sheet_in, Accepted}
use Rattle.format.specs.Refusal.{AreBytes}
use Rattle.format.specs.Place.{mode_bytes, module_bytes, module_place, mode_place}
use Rattle.format.proofs.Bytes.{joined_append, length_record_bytes, record_at_first}
use Rattle.format.proofs.RoundTrip.{accepted_encoded}

-- Lists, one after the other.

joined_joined : {A B C : Type 0} (f : B → List C) (g : A → List B) (xs : List A) → joined f (joined g xs) ≡ joined (λ x. joined f (g x)) xs
joined_joined f g [] = refl
joined_joined f g (x ∷ xs) = rw (joined_append f (g x) (joined g xs), joined_joined f g xs)

joined_map : {A B C : Type 0} (f : B → List C) (g : A → B) (xs : List A) → joined f (map g xs) ≡ joined (λ x. f (g x)) xs
joined_map f g [] = refl
joined_map f g (x ∷ xs) = rw (joined_map f g xs)

-- the one that has the number i, and what follows it
joined_at : {A : Type 0} (f : A → List ℕ) (d : A) (xs : List A) (i : ℕ) → i < length xs → (more : List ℕ) → joined f (drop i xs) ++ more ≡ f (get_or xs i d) ++ (joined f (drop (suc i) xs) ++ more)
joined_at f d xs i h more = rw (drop-cons xs i d h, append_assoc (f (get_or xs i d)))

-- lists of which each has its size
module _ {A : Type 0} (f : A → List ℕ) (size_of : A → ℕ) (sized : (x : A) → length (f x) ≡ size_of x) where
  length_sized : (xs : List A) → length (joined f xs) ≡ sum_of size_of xs
  length_sized [] = refl
  length_sized (x ∷ xs) = length-append (f x) (joined f xs) ∙ omega (arith, sized x, length_sized xs)

  -- what stands behind the first of them
  behind : (bs : List ℕ) (p : ℕ) (x : A) (more : List ℕ) → drop p bs ≡ f x ++ more → drop (p + size_of x) bs ≡ more
  behind bs p x more e = sym (drop-drop (size_of x) p bs) ∙ ap (drop (size_of x)) e ∙ drop_at (f x) more (size_of x) (sized x)

  -- and behind the first k
  past : (bs : List ℕ) (p : ℕ) (xs : List A) (more : List ℕ) → drop p bs ≡ joined f xs ++ more → (k : ℕ) → k ≤ length xs → drop (p + sum_of size_of (take k xs)) bs ≡ joined f (drop k xs) ++ more
  past bs p xs more e zero h = rw (add-zero p) e
  past bs p [] more e (suc k) h = absurd (omega arith)
  past bs p (x ∷ xs) more e (suc k) h =
      rw (← (add_assoc p (size_of x) (sum_of size_of (take k xs))))
      (past bs (p + size_of x) xs more (behind bs p x (joined f xs ++ more) (e ∙ append_assoc (f x) (joined f xs) more)) k (le_of_suc-le-suc h))

-- The bytes of a task, a switch, a mode and a module.

abbrev task_line : Task → List ℕ
task_line k = record_bytes (tk k)

abbrev switch_line : Switch → List ℕ
switch_line w = record_bytes (sw w)

abbrev mode_lines : Mode → List ℕ
mode_lines o = joined record_bytes (mode_records o)

abbrev module_lines : Module → List ℕ
module_lines m = joined record_bytes (module_records m)

mode_lines_lem : (o : Mode) → mode_lines o ≡ record_bytes (md o.period) ++ (joined task_line o.tasks ++ joined switch_line o.switches)
unfolding mode_records
mode_lines_lem o = rw (joined_append record_bytes (map tk o.tasks) (map sw o.switches), joined_map record_bytes tk o.tasks, joined_map record_bytes sw o.switches)

module_lines_lem : (m : Module) → module_lines m ≡ record_bytes (ml (length m.modes)) ++ joined mode_lines m.modes
unfolding module_records
module_lines_lem m = rw (joined_joined record_bytes mode_records m.modes)

same_sum : {A : Type 0} (n : ℕ) (xs : List A) → sum_of (λ x. n) xs ≡ n * length xs
same_sum n [] = omega arith
same_sum n (x ∷ xs) = omega (arith, same_sum n xs)

task_size : (k : Task) → length (task_line k) ≡ 10
task_size k = length_record_bytes (tk k)

switch_size : (w : Switch) → length (switch_line w) ≡ 6
switch_size w = length_record_bytes (sw w)

mode_size : (o : Mode) → length (mode_lines o) ≡ mode_bytes o
mode_size o =
    ap length (mode_lines_lem o)
    ∙ omega (
      arith,
      length-append (record_bytes (md o.period)) (joined task_line o.tasks ++ joined switch_line o.switches),
      length-append (joined task_line o.tasks) (joined switch_line o.switches),
      length_record_bytes (md o.period),
      length_sized task_line (λ k. 10) task_size o.tasks,
      length_sized switch_line (λ w. 6) switch_size o.switches,
      same_sum 10 o.tasks,
      same_sum 6 o.switches,
    )

module_size : (m : Module) → length (module_lines m) ≡ module_bytes m
module_size m =
    ap length (module_lines_lem m)
    ∙ omega (
      arith,
      length-append (record_bytes (ml (length m.modes))) (joined mode_lines m.modes),
      length_record_bytes (ml (length m.modes)),
      length_sized mode_lines mode_bytes mode_size m.modes,
    )

-- The bytes of a sheet value.

abbrev end_line : Sheet → List ℕ
end_line s = record_bytes (en (length (records_before_end s)))

sheet_lines_lem : (s : Sheet) → encode s ≡ record_bytes (hz s.horizon) ++ (joined module_lines s.modules ++ end_line s)
unfolding encode records records_before_end
sheet_lines_lem s =
    let end : Record = en (length (records_before_end s)) in
    rw (joined_append record_bytes (joined module_records s.modules) (end ∷ []), joined_joined record_bytes module_records s.modules, append-nil (record_bytes end))

-- the modes of the module k from the number j on, then the modules after it, and the end
abbrev rest_from : Sheet → ℕ → ℕ → List ℕ
rest_from s k j = joined mode_lines (drop j (module_at s k).modes) ++ (joined module_lines (drop (suc k) s.modules) ++ end_line s)

rest_length : (s : Sheet) (k j : ℕ) → 4 ≤ length (rest_from s k j)
rest_length s k j =
    let modes : List ℕ = joined mode_lines (drop j (module_at s k).modes) in
    let modules : List ℕ = joined module_lines (drop (suc k) s.modules) in
    omega (arith, length-append modes (modules ++ end_line s), length-append modules (end_line s), length_record_bytes (en (length (records_before_end s))))

-- The first byte: T of TK, S of SW and of SX, and of MD, ML and EN one before both.

switch_letter : (k : Kind) → code (switch k) / 256 ≡ 83
switch_letter SW = refl
switch_letter SX = refl

modules_first : (ms : List Module) (s : Sheet) → get_or (joined module_lines ms ++ end_line s) 0 0 < 80
unfolding module_records record_bytes
modules_first [] s = omega arith
modules_first (m ∷ ms) s = omega arith

rest_first : (os : List Mode) (ms : List Module) (s : Sheet) → get_or (joined mode_lines os ++ (joined module_lines ms ++ end_line s)) 0 0 < 80
unfolding mode_records record_bytes
rest_first [] ms s = modules_first ms s
rest_first (o ∷ os) ms s = omega arith

switches_first : (ws : List Switch) (os : List Mode) (ms : List Module) (s : Sheet) → get_or (joined switch_line ws ++ (joined mode_lines os ++ (joined module_lines ms ++ end_line s))) 0 0 < 84
unfolding record_bytes
switches_first [] os ms s = let h : _ < 80 = rest_first os ms s in omega arith
switches_first (w ∷ ws) os ms s = omega (arith, switch_letter w.kind)

-- Reading at a place.

record_at_drop : (m : Mark) (bs : List ℕ) (p : ℕ) → record_at m (drop p bs) 0 ≡ record_at m bs p
record_at_drop HZ bs p = simp (get_or-drop, add_assoc)
record_at_drop ML bs p = simp (get_or-drop, add_assoc)
record_at_drop MD bs p = simp (get_or-drop, add_assoc)
record_at_drop TK bs p = simp (get_or-drop, add_assoc)
record_at_drop (switch k) bs p = simp (get_or-drop, add_assoc)
record_at_drop EN bs p = simp (get_or-drop, add_assoc)

record_there : (bs : List ℕ) (p : ℕ) (r : Record) (more : List ℕ) → drop p bs ≡ record_bytes r ++ more → record_at (mark_of r) bs p ≡ r
record_there bs p r more e = sym (record_at_drop (mark_of r) bs p) ∙ ap (λ (cs : List ℕ). record_at (mark_of r) cs 0) e ∙ record_at_first r more

first_there : (bs : List ℕ) (p : ℕ) (cs : List ℕ) → drop p bs ≡ cs → get_or bs p 0 ≡ get_or cs 0 0
first_there bs p cs e = rw (add-zero p) at (sym (get_or-drop p bs 0 0) ∙ ap (λ (l : List ℕ). get_or l 0 0) e)

-- what stands at a place ends within the bytes
length_there : (bs : List ℕ) (p : ℕ) (cs : List ℕ) → drop p bs ≡ cs → 4 ≤ length cs → p + length cs ≡ length bs
length_there bs p cs e h = omega (arith, length-drop p bs, ap length e)

-- An accepted sheet's bytes, and the mode j of its module k.

abbrev mode_of : List ℕ → ℕ → ℕ → Mode
mode_of bs k j = mode_at (module_at (sheet_in bs) k) j

module _ (bs : List ℕ) (accepted : Accepted bs) (bytes : AreBytes bs) where
  -- HZ stands at the front
  pub horizon_there : field_at bs 2 ≡ (sheet_in bs).horizon
  horizon_there =
      let s : Sheet = sheet_in bs in
      let there : hz (field_at bs 2) ≡ hz s.horizon = record_there bs 0 (hz s.horizon) (joined module_lines s.modules ++ end_line s) (sym (accepted_encoded bs s accepted bytes) ∙ sheet_lines_lem s) in
      cc

  pub horizon_within : 4 ≤ length bs
  horizon_within = omega (arith, ap length (sym (accepted_encoded bs (sheet_in bs) accepted bytes) ∙ sheet_lines_lem (sheet_in bs)), length-append (record_bytes (hz (sheet_in bs).horizon)) (joined module_lines (sheet_in bs).modules ++ end_line (sheet_in bs)), length_record_bytes (hz (sheet_in bs).horizon))

  from_start : drop 4 bs ≡ joined module_lines (sheet_in bs).modules ++ end_line (sheet_in bs)
  from_start =
      let s : Sheet = sheet_in bs in
      ap (drop 4) (sym (accepted_encoded bs s accepted bytes) ∙ sheet_lines_lem s)
      ∙ drop_at (record_bytes (hz s.horizon)) (joined module_lines s.modules ++ end_line s) 4 (length_record_bytes (hz s.horizon))

  -- the modules from the number k on
  from_module : (k : ℕ) → k ≤ length (sheet_in bs).modules → drop (module_place (sheet_in bs) k) bs ≡ joined module_lines (drop k (sheet_in bs).modules) ++ end_line (sheet_in bs)
  unfolding module_place
  from_module k h = past module_lines module_bytes module_size bs 4 (sheet_in bs).modules (end_line (sheet_in bs)) from_start k h

  -- a module or the end stands there, and nothing of it is past the bytes
  pub module_within : (k : ℕ) → k ≤ length (sheet_in bs).modules → module_place (sheet_in bs) k + 4 ≤ length bs
  module_within k h =
      let s : Sheet = sheet_in bs in
      let modules : List ℕ = joined module_lines (drop k s.modules) in
      let long : 4 ≤ length (modules ++ end_line s) = omega (arith, length-append modules (end_line s), length_record_bytes (en (length (records_before_end s)))) in
      omega (arith, length_there bs (module_place s k) (modules ++ end_line s) (from_module k h) long)

  -- behind the last module stands EN
  pub end_first : get_or bs (module_place (sheet_in bs) (length (sheet_in bs).modules)) 0 ≡ 69
  unfolding record_bytes
  end_first =
      let ms : List Module = (sheet_in bs).modules in
      first_there bs (module_place (sheet_in bs) (length ms)) _ (from_module (length ms) (omega arith)) ∙ rw (drop-length ms)

  module _ (k : ℕ) (number : k < length (sheet_in bs).modules) where
    -- ML of the module and what follows it
    from_head : drop (module_place (sheet_in bs) k) bs ≡ record_bytes (ml (length (module_at (sheet_in bs) k).modes)) ++ rest_from (sheet_in bs) k 0
    from_head =
        let s : Sheet = sheet_in bs in
        let m : Module = module_at s k in
        from_module k (omega arith)
        ∙ joined_at module_lines (record { modes = [] }) s.modules k number (end_line s)
        ∙ rw (module_lines_lem m, append_assoc (record_bytes (ml (length m.modes))))

    pub module_record : record_at ML bs (module_place (sheet_in bs) k) ≡ ml (length (module_at (sheet_in bs) k).modes)
    module_record = record_there bs (module_place (sheet_in bs) k) (ml (length (module_at (sheet_in bs) k).modes)) (rest_from (sheet_in bs) k 0) from_head

    pub module_first : get_or bs (module_place (sheet_in bs) k) 0 ≡ 77
    unfolding record_bytes
    module_first = first_there bs (module_place (sheet_in bs) k) _ from_head

    -- the modes from the number j on
    from_mode : (j : ℕ) → j ≤ length (module_at (sheet_in bs) k).modes → drop (mode_place (sheet_in bs) k j) bs ≡ rest_from (sheet_in bs) k j
    unfolding mode_place
    from_mode j l =
        let s : Sheet = sheet_in bs in
        let m : Module = module_at s k in
        past mode_lines mode_bytes mode_size bs (module_place s k + 4) m.modes (joined module_lines (drop (suc k) s.modules) ++ end_line s)
        (behind record_bytes (λ r. size (mark_of r)) length_record_bytes bs (module_place s k) (ml (length m.modes)) (rest_from s k 0) from_head)
        j l

    module _ (j : ℕ) (mode : j < length (module_at (sheet_in bs) k).modes) where
      -- MD of the mode and what follows it
      from_period : drop (mode_place (sheet_in bs) k j) bs
          ≡ record_bytes (md (mode_of bs k j).period) ++ (joined task_line (mode_of bs k j).tasks ++ (joined switch_line (mode_of bs k j).switches ++ rest_from (sheet_in bs) k (suc j)))
      from_period =
          let m : Module = module_at (sheet_in bs) k in
          from_mode j (omega arith) ∙ joined_at mode_lines idle m.modes j mode _ ∙ rw (mode_lines_lem (mode_at m j)) (simp append_assoc)

      pub mode_record : record_at MD bs (mode_place (sheet_in bs) k j) ≡ md (mode_of bs k j).period
      mode_record = record_there bs (mode_place (sheet_in bs) k j) (md (mode_of bs k j).period) _ from_period

      -- the tasks from the number i on, the switches, and what follows
      from_task : (i : ℕ) → i ≤ length (mode_of bs k j).tasks
          → drop (mode_place (sheet_in bs) k j + 4 + 10 * i) bs ≡ joined task_line (drop i (mode_of bs k j).tasks) ++ (joined switch_line (mode_of bs k j).switches ++ rest_from (sheet_in bs) k (suc j))
      from_task i l =
          let o : Mode = mode_of bs k j in
          let p : ℕ = mode_place (sheet_in bs) k j in
          let after : List ℕ = joined switch_line o.switches ++ rest_from (sheet_in bs) k (suc j) in
          let so_far : sum_of (λ k. 10) (take i o.tasks) ≡ 10 * i = same_sum 10 (take i o.tasks) ∙ ap (λ n. 10 * n) (length-take-le i o.tasks l) in
          rw (so_far) at (past task_line (λ k. 10) task_size bs (p + 4) o.tasks after (behind record_bytes (λ r. size (mark_of r)) length_record_bytes bs p (md o.period) (joined task_line o.tasks ++ after) from_period) i l)

      pub task_record : (i : ℕ) (d : Task) → i < length (mode_of bs k j).tasks → record_at TK bs (mode_place (sheet_in bs) k j + 4 + 10 * i) ≡ tk (get_or (mode_of bs k j).tasks i d)
      task_record i d l =
          let o : Mode = mode_of bs k j in
          record_there bs (mode_place (sheet_in bs) k j + 4 + 10 * i) (tk (get_or o.tasks i d)) _ (from_task i (omega arith) ∙ joined_at task_line d o.tasks i l _)

      pub task_first : (i : ℕ) → i < length (mode_of bs k j).tasks → get_or bs (mode_place (sheet_in bs) k j + 4 + 10 * i) 0 ≡ 84
      unfolding record_bytes
      task_first i l =
          let d : Task = record { offset = 0; cost = 0; LET = 0; period = 0 } in
          first_there bs (mode_place (sheet_in bs) k j + 4 + 10 * i) _ (from_task i (omega arith)) ∙ rw (drop-cons (mode_of bs k j).tasks i d l)

      pub tasks_end : get_or bs (mode_place (sheet_in bs) k j + 4 + 10 * length (mode_of bs k j).tasks) 0 < 84
      tasks_end =
          let o : Mode = mode_of bs k j in
          rw (first_there bs (mode_place (sheet_in bs) k j + 4 + 10 * length o.tasks) _ (from_task (length o.tasks) (omega arith)), drop-length o.tasks)
          (switches_first o.switches (drop (suc j) (module_at (sheet_in bs) k).modes) (drop (suc k) (sheet_in bs).modules) (sheet_in bs))

      -- the switches from the number i on, and what follows
      from_switch : (i : ℕ) → i ≤ length (mode_of bs k j).switches
          → drop (mode_place (sheet_in bs) k j + 4 + 10 * length (mode_of bs k j).tasks + 6 * i) bs ≡ joined switch_line (drop i (mode_of bs k j).switches) ++ rest_from (sheet_in bs) k (suc j)
      from_switch i l =
          let o : Mode = mode_of bs k j in
          let so_far : sum_of (λ w. 6) (take i o.switches) ≡ 6 * i = same_sum 6 (take i o.switches) ∙ ap (λ n. 6 * n) (length-take-le i o.switches l) in
          rw (so_far) at (
          past switch_line (λ w. 6) switch_size bs (mode_place (sheet_in bs) k j + 4 + 10 * length o.tasks) o.switches (rest_from (sheet_in bs) k (suc j))
          (from_task (length o.tasks) (omega arith) ∙ rw (drop-length o.tasks)) i l
          )

      pub switch_record : (i : ℕ) (d : Switch) → i < length (mode_of bs k j).switches
          → record_at (switch (get_or (mode_of bs k j).switches i d).kind) bs (mode_place (sheet_in bs) k j + 4 + 10 * length (mode_of bs k j).tasks + 6 * i) ≡ sw (get_or (mode_of bs k j).switches i d)
      switch_record i d l =
          let o : Mode = mode_of bs k j in
          record_there bs (mode_place (sheet_in bs) k j + 4 + 10 * length o.tasks + 6 * i) (sw (get_or o.switches i d)) _
          (from_switch i (omega arith) ∙ joined_at switch_line d o.switches i l _)

      pub switch_first : (i : ℕ) → i < length (mode_of bs k j).switches → get_or bs (mode_place (sheet_in bs) k j + 4 + 10 * length (mode_of bs k j).tasks + 6 * i) 0 ≡ 83
      unfolding record_bytes
      switch_first i l =
          let o : Mode = mode_of bs k j in
          let d : Switch = record { kind = SW; target = 0; period = 0 } in
          first_there bs (mode_place (sheet_in bs) k j + 4 + 10 * length o.tasks + 6 * i) _ (from_switch i (omega arith)) ∙ rw (drop-cons o.switches i d l) (switch_letter (get_or o.switches i d).kind)

      pub switches_end : get_or bs (mode_place (sheet_in bs) k j + 4 + 10 * length (mode_of bs k j).tasks + 6 * length (mode_of bs k j).switches) 0 < 80
      switches_end =
          let o : Mode = mode_of bs k j in
          rw (first_there bs (mode_place (sheet_in bs) k j + 4 + 10 * length o.tasks + 6 * length o.switches) _ (from_switch (length o.switches) (omega arith)), drop-length o.switches)
          (rest_first (drop (suc j) (module_at (sheet_in bs) k).modes) (drop (suc k) (sheet_in bs).modules) (sheet_in bs))

      -- the mode, and a record behind it, are within the bytes
      pub mode_within : mode_place (sheet_in bs) k j + mode_bytes (mode_of bs k j) + 4 ≤ length bs
      mode_within =
          let o : Mode = mode_of bs k j in
          let rest : List ℕ = rest_from (sheet_in bs) k (suc j) in
          let long : 4 ≤ length rest = rest_length (sheet_in bs) k (suc j) in
          let e : drop (mode_place (sheet_in bs) k j + 4 + 10 * length o.tasks + 6 * length o.switches) bs ≡ rest = from_switch (length o.switches) (omega arith) ∙ rw (drop-length o.switches) in
          omega (arith, length_there bs (mode_place (sheet_in bs) k j + 4 + 10 * length o.tasks + 6 * length o.switches) rest e long)
