-- What a task of an accepted sheet demands fits 32 bits, and the sum over the first i tasks of the mode at a place becomes the mode demand. Assumes nothing.
use mathlib.Core.Path.{◌≡◌, refl, sym, ◌∙◌, ap}
use mathlib.Core.List.{List}
use Prim.Native.Nat.{ℕ, ◌+◌, ◌-◌, ◌*◌, ◌/◌, ◌%◌, ◌≤◌, ◌<◌}
use native.Mathlib.Nat.{mul-le-mul, div-mul-le_self, mod-eq_of_lt}
use native.Mathlib.Numerals.{add-one}
use native.Mathlib.Decide.{dec_le}
use native.Mathlib.Omega.{arith}
use lib.ListN.{length, get_or, take}
use lib.Seq.{take-length}
use Rattle.model.specs.Lists.{sum_of}
use Rattle.model.specs.Limits.{max_mode_period, max_mode_tasks}
use Rattle.model.specs.Sheet.{Task, Mode, Sheet, module_at}
use Rattle.model.specs.WellFormed.{TaskRule, ModeRule, ModuleRule}
use Rattle.model.specs.Run.{mode_at}
use Rattle.model.specs.Demand.{instances, mode_demand}
use Rattle.model.proofs.Lists.{all_at}
use Rattle.model.proofs.Runs.{mode_rule}
use Rattle.format.specs.Record.{TK, tk, record_at}
use Rattle.format.specs.Judgement.{sheet_in, Accepted}
use Rattle.format.specs.Refusal.{AreBytes}
use Rattle.format.proofs.RoundTrip.{accepted_well_formed}
use Rattle.place.specs.There.{ModeThere, SomeMode}
use Rattle.place.proofs.Counting.{some_within}
use Rattle.place.proofs.Standing.{task_record}
use Rattle.place.proofs.Steps.{sum_step}
use Rattle.demand.specs.Counted.{Times, Countable, Counted}

-- One task.

task_bound : (x : Task) (a b : ℕ) → Countable x → Times a b → instances x a b * x.cost ≤ 2 * max_mode_period
unfolding instances
task_bound x a b h t =
    let by : ℕ = b + (x.period - (x.offset + x.LET)) in
    let most : instances x a b * x.cost ≤ by / x.period * x.period = mul-le-mul (omega arith) (omega arith) in
    omega (arith, div-mul-le_self by x.period)

pub task_counted : (x : Task) (a b n : ℕ) → Countable x → Times a b → n ≡ instances x a b → Counted x a b (n * x.cost)
task_counted x a b n h t e = record { amount = rw e; bound = rw e (task_bound x a b h t) }

-- a task's period divides that of its mode, and so is at most that
period_short : (T period : ℕ) → 1 ≤ period → period % T ≡ 0 → T ≤ period
period_short T period h e = pick (dec_le T period)
  where
    pick : Dec (T ≤ period) → T ≤ period
    pick (yes l) = l
    pick (no l) = let same : period % T ≡ period = mod-eq_of_lt (omega arith) in omega arith

-- The mode at p has n tasks.
pub record Tasks (bs : List ℕ) (p n : ℕ) : Type 0 where
  pub accepted : Accepted bs
  pub bytes : AreBytes bs
  pub some : SomeMode (sheet_in bs) p
  pub count : (k j : ℕ) → ModeThere (sheet_in bs) k j p → n ≡ length (mode_at (module_at (sheet_in bs) k) j).tasks

pub mode_there_rule : (bs : List ℕ) → Accepted bs → (k j p : ℕ) → ModeThere (sheet_in bs) k j p
    → ModeRule (length (module_at (sheet_in bs) k).modes) j (mode_at (module_at (sheet_in bs) k) j)
mode_there_rule bs accepted k j p h =
    let s : Sheet = sheet_in bs in
    mode_rule (module_at s k) (all_at ModuleRule _ s.modules (accepted_well_formed bs s accepted).modules k h.number) j h.mode

module _ {bs : List ℕ} {p n : ℕ} (tasks : Tasks bs p n) where
  pub tasks_few : n ≤ max_mode_tasks
  tasks_few =
      let some : SomeMode (sheet_in bs) p = tasks.some in
      omega (arith, tasks.count some.k some.j some.there, (mode_there_rule bs tasks.accepted some.k some.j p some.there).count)

  module _ (i : ℕ) (l : i < n) where
    pub task_within : p + 4 + 10 * i + 10 ≤ length bs
    task_within =
        let some : SomeMode (sheet_in bs) p = tasks.some in
        omega (arith, tasks.count some.k some.j some.there, some_within bs tasks.accepted tasks.bytes p some)

    -- what stands behind i tasks is the task i of the mode
    module _ (x : Task) (e : tk x ≡ record_at TK bs (p + 4 + 10 * i)) where
      task_there : (k j : ℕ) → ModeThere (sheet_in bs) k j p → x ≡ get_or (mode_at (module_at (sheet_in bs) k) j).tasks i x
      task_there k j h =
          let o : Mode = mode_at (module_at (sheet_in bs) k) j in
          let there : record_at TK bs (p + 4 + 10 * i) ≡ tk (get_or o.tasks i x) = rw h.place (task_record bs tasks.accepted tasks.bytes k h.number j h.mode i x (omega (arith, tasks.count k j h))) in
          let same : tk x ≡ tk (get_or o.tasks i x) = e ∙ there in
          cc

      pub task_countable : Countable x
      task_countable = counted tasks.some
        where
          counted : SomeMode (sheet_in bs) p → Countable x
          counted some =
              let o : Mode = mode_at (module_at (sheet_in bs) some.k) some.j in
              let rule : ModeRule _ some.j o = mode_there_rule bs tasks.accepted some.k some.j p some.there in
              let r : TaskRule o.period x = rw (sym (task_there some.k some.j some.there)) at (all_at (TaskRule o.period) x o.tasks rule.tasks i (omega (arith, tasks.count some.k some.j some.there))) in
              record { works = r.works; fits = r.fits; within = r.within; short = omega (arith, period_short x.period o.period rule.least r.divides, rule.most) }

-- The first i of the tasks demand so much.
pub record Summed (bs : List ℕ) (p n a b demand i : ℕ) : Type 0 where
  pub tasks : Tasks bs p n
  pub bound : demand ≤ 2 * max_mode_period * i
  pub sum : (k j : ℕ) → ModeThere (sheet_in bs) k j p → demand ≡ sum_of (λ x. instances x a b * x.cost) (take i (mode_at (module_at (sheet_in bs) k) j).tasks)

pub summed_none : {bs : List ℕ} {p n a b : ℕ} → Tasks bs p n → Summed bs p n a b 0 0
summed_none t = record { tasks = t; bound = omega arith; sum = λ k j h. refl }

module _ {bs : List ℕ} {p n a b demand i : ℕ} (done : Summed bs p n a b demand i) where
  pub sum_fits : i < n → (r : ℕ) → r ≤ 2 * max_mode_period → demand + r < 4294967296
  sum_fits l r h = omega (arith, done.bound, tasks_few done.tasks)

  pub summed_more : i < n → (x : Task) → tk x ≡ record_at TK bs (p + 4 + 10 * i) → (r : ℕ) → Counted x a b r → Summed bs p n a b (demand + r) (i + 1)
  summed_more l x e r c =
      record {
        tasks = done.tasks;
        bound = omega (arith, done.bound, c.bound);
        sum = λ k j h. further k j h;
      }
    where
      further : (k j : ℕ) → ModeThere (sheet_in bs) k j p → demand + r ≡ sum_of (λ y. instances y a b * y.cost) (take (i + 1) (mode_at (module_at (sheet_in bs) k) j).tasks)
      further k j h =
          let o : Mode = mode_at (module_at (sheet_in bs) k) j in
          let f : Task → ℕ = λ y. instances y a b * y.cost in
          rw (add-one i) (omega (arith, sum_step f x o.tasks i (omega (arith, done.tasks.count k j h)), done.sum k j h, c.amount, ap f (task_there done.tasks i l x e k j h)))

  -- all of them: the mode demand
  pub summed_all : i ≡ n → (k j : ℕ) → ModeThere (sheet_in bs) k j p → demand ≡ mode_demand (mode_at (module_at (sheet_in bs) k) j) a b
  unfolding mode_demand
  summed_all l k j h =
      let o : Mode = mode_at (module_at (sheet_in bs) k) j in
      let e : i ≡ length o.tasks = l ∙ done.tasks.count k j h in
      done.sum k j h ∙ rw (e, take-length o.tasks)
