-- The definitions take what document 01's 'Runs' describes, all of it and nothing else: independent runs, instances, the runs that tapes show, works, orders of
-- work, and a mode that stays current. Assumes nothing.
use mathlib.Core.Path.{◌≡◌, refl, sym, ◌∙◌, ap}
use mathlib.Core.Logic.{◌↔◌}
use mathlib.Core.Bool.{Bool, true, false, and-eq-true_iff}
use mathlib.Core.List.{List, [], ◌∷◌}
use Prim.Native.Nat.{ℕ, zero, suc, ◌+◌, ◌-◌, ◌%◌, ◌≤◌, ◌<◌, zero-le}
use native.Mathlib.Nat.{le_refl}
use native.Mathlib.Omega.{arith}
use lib.Dec.{eqb}
use lib.ListN.{length, get_or}
use lib.Seq.{ext_get_or}
use borrow.Author.Tests.{eqb-true, eq-eqb}
use Rattle.model.specs.Lists.{Nth}
use Rattle.model.specs.Sheet.{Task, Module, Sheet}
use Rattle.model.specs.Run.{State, at, first, mode_of, Run, later, IsRun}
use Rattle.model.specs.Tape.{tape_of}
use Rattle.edf.specs.Work.{Runs, AreRuns, Instance, IsInstance, Work, AreWorks, full_cost, Slot, unused, given, same, done, Order, EarliestDeadlineFirst}
use Rattle.edf.specs.Shown.{Shown}
use Rattle.edf.specs.Stay.{CurrentUntil}
use Rattle.edf.proofs.Listing.{instance_of}
use Rattle.edf.proofs.Demands.{tape_at}

-- a number names one element
nth_only : {A : Type 0} (xs : List A) (i : ℕ) (x y : A) → Nth xs i x → Nth xs i y → x ≡ y
nth_only [] i x y n o = absurd n
nth_only (z ∷ zs) zero x y n o = n ∙ sym o
nth_only (z ∷ zs) (suc i) x y n o = nth_only zs i x y n o

-- Runs.

-- ρ in place of the run of the module k
abbrev pub instead : Runs → ℕ → Run → Runs
instead ρs k ρ j = elim (eqb j k) [ true ↦ ρ | false ↦ ρs j ]

-- Modules choose independently: whatever run one takes, the others keep theirs.
pub chosen_independently : (s : Sheet) (ρs : Runs) → AreRuns s ρs → (k : ℕ) (m : Module) → Nth s.modules k m → (ρ : Run) → IsRun m first ρ → AreRuns s (instead ρs k ρ)
chosen_independently s ρs runs k m is ρ run j o is-o = pick (eqb j k) refl
  where
    pick : (b : Bool) → eqb j k ≡ b → IsRun o first (elim b [ true ↦ ρ | false ↦ ρs j ])
    pick true e = rw (nth_only s.modules k o m (rw (eqb-true j k e) at is-o) is) run
    pick false e = runs j o is-o

-- A mode stays current until b: at each tick from t on and before b the mode is that of t, and the mode time has run on with the ticks.
pub current_ticks : (ρ : Run) (t b : ℕ)
    → CurrentUntil ρ t b ↔ ((u : ℕ) → t ≤ u → u < b → ((ρ u).mode ≡ (ρ t).mode) × ((ρ u).time ≡ (ρ t).time + (u - t)))
current_ticks ρ t b = (
  λ current u from before. (ap (λ (c : State). c.mode) (current u from before), ap (λ (c : State). c.time) (current u from before)),
  λ each u from before j. at ((each u from before).0 j) ((each u from before).1 j),
)

tape_length : (ρ : Run) (b : ℕ) → length (tape_of ρ b) ≡ b
tape_length ρ zero = refl
tape_length ρ (suc b) = ap suc (tape_length (later ρ) b)

-- Tapes show the runs that are, at each tick 0 to b - 1, in the mode whose number stands there.
pub shown_ticks : (ρs : Runs) (b : ℕ) (ts : List (List ℕ))
    → Shown ρs b ts ↔ ((k : ℕ) (tape : List ℕ) → Nth ts k tape → (length tape ≡ b) × ((t : ℕ) → t < b → get_or tape t 0 ≡ (ρs k t).mode))
shown_ticks ρs b ts = (
  λ shown k tape n. (rw (← (shown k tape n)) (tape_length (ρs k) b), λ t l. rw (← (shown k tape n)) (tape_at (ρs k) b t l)),
  λ each k tape n.
      let same : length (tape_of (ρs k) b) ≡ length tape = tape_length (ρs k) b ∙ sym (each k tape n).0 in
      ext_get_or 0 (tape_of (ρs k) b) tape same (λ t l. let before : t < b = omega (arith, tape_length (ρs k) b) in tape_at (ρs k) b t before ∙ sym ((each k tape n).1 t before)),
)

module _ (s : Sheet) (ρs : Runs) where
  -- Instances.

  -- A task releases an instance at each tick where its mode is current and the mode time, divided by its period, leaves its offset. It is due LET ticks later.
  pub instance_released : (k t i : ℕ) (m : Module) (task : Task) → Nth s.modules k m → Nth (mode_of m (ρs k t)).tasks i task
      → (ρs k t).time % task.period ≡ task.offset → IsInstance s ρs (instance_of k t i task)
  instance_released k t i m task is_owner is_task leaves =
      record { owner = m; task = task; is_owner = is_owner; is_task = is_task; released = eq-eqb _ _ leaves; is_due = refl; is_cost = refl }

  -- It releases one there: instances with module, task and release in common are the same.
  pub same_instance : (x y : Instance) → IsInstance s ρs x → IsInstance s ρs y → (same x y ≡ true) ↔ (x ≡ y)
  same_instance x y g h = (one, λ e. rw e (itself y))
    where
      itself : (z : Instance) → same z z ≡ true
      itself z = rw (eq-eqb z.module_number z.module_number refl, eq-eqb z.task_number z.task_number refl, eq-eqb z.release z.release refl)

      one : same x y ≡ true → x ≡ y
      one e = λ j. record { module_number = k j; task_number = i j; release = t j; due = due j; cost = cost j }
        where
          equal : (x.module_number ≡ y.module_number) × (x.task_number ≡ y.task_number) × (x.release ≡ y.release)
          equal =
              let r = simp and-eq-true_iff at e in
              (eqb-true _ _ r.0, eqb-true _ _ r.1.0, eqb-true _ _ r.1.1)

          k : x.module_number ≡ y.module_number
          k = equal.0

          i : x.task_number ≡ y.task_number
          i = equal.1

          t : x.release ≡ y.release
          t = equal.2

          owner : g.owner ≡ h.owner
          owner = nth_only s.modules x.module_number g.owner h.owner g.is_owner (rw k h.is_owner)

          task : g.task ≡ h.task
          task = nth_only (mode_of g.owner (ρs x.module_number x.release)).tasks x.task_number g.task h.task g.is_task (rw (k, i, t, owner) h.is_task)

          due : x.due ≡ y.due
          due = omega (arith, t, g.is_due, h.is_due, ap (λ (a : Task). a.LET) task)

          cost : x.cost ≡ y.cost
          cost = omega (arith, g.is_cost, h.is_cost, ap (λ (a : Task). a.cost) task)

  -- Works.

  -- Each instance has 0 to its cost ticks of work: whatever gives each no more than its cost, so also none, and all of it.
  pub any_work : (w : Work) → ((x : Instance) → IsInstance s ρs x → w x ≤ x.cost) → AreWorks s ρs w
  any_work w most = most

  pub no_work : AreWorks s ρs (λ x. 0)
  no_work = any_work (λ x. 0) (λ x is. zero-le)

  pub full_work : AreWorks s ρs full_cost
  full_work = any_work full_cost (λ x is. le_refl x.cost)

  -- Orders of work.

  module _ (w : Work) (σ : ℕ → Slot) where
    -- Whatever gives each tick to at most one instance, released at or before that tick and with work left.
    pub any_order : ((t : ℕ) (x : Instance) → σ t ≡ given x → IsInstance s ρs x × (x.release ≤ t) × (done σ x t < w x)) → Order s ρs w σ
    any_order pending t x e = let p = pending t x e in record { is_instance = p.0; released = p.1; left = p.2 }

    -- Whatever of those is idle only where no released instance has work left, and goes otherwise to one with the earliest due tick: to any such one.
    pub any_earliest : Order s ρs w σ
        → ((t : ℕ) (x : Instance) → σ t ≡ unused → IsInstance s ρs x → x.release ≤ t → w x ≤ done σ x t)
        → ((t : ℕ) (x y : Instance) → σ t ≡ given x → IsInstance s ρs y → y.release ≤ t → done σ y t < w y → x.due ≤ y.due)
        → EarliestDeadlineFirst s ρs w σ
    any_earliest order idle earliest =
        record {
          order = order;
          idle = λ t x e p. omega (arith, idle t x e p.is_instance p.released, p.left);
          earliest = λ t x y e p. earliest t x y e p.is_instance p.released p.left;
        }
