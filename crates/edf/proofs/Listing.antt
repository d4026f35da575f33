-- The instances of given runs that are released in a stretch of ticks and pass a test, as a list: it holds each of them, and nothing else; and the costs of
-- those that are released at or after a and due at or before b add up to the demand of the runs. Assumes nothing.
use mathlib.Core.Path.{◌≡◌, refl, ◌∙◌}
use mathlib.Core.Bool.{Bool, true, false, ◌&&◌, and-eq-true_iff}
use mathlib.Core.List.Memᴰ
use mathlib.Core.List.{List, [], Memᴰ}
use Prim.Native.Nat.{ℕ, ◌+◌, ◌-◌, ◌≤◌, ◌<◌}
use native.Mathlib.Nat.{add-zero}
use native.Mathlib.Omega.{arith}
use lib.Dec.{leb}
use borrow.Author.Tests.{leb-true, le-leb}
use Rattle.model.specs.Lists.{when, sum_of, ticks, Nth}
use Rattle.model.specs.Sheet.{Task, Module, Sheet}
use Rattle.model.specs.Run.{State, mode_of, releases, gain_of, gain, demand}
use Rattle.model.specs.Demand.{cons_if}
use Rattle.model.proofs.Lists.{ticks_same}
use Rattle.edf.specs.Work.{Runs, Instance, IsInstance}
use Rattle.edf.proofs.Joined.{sum_over, join_over, sum_join_over, in_join_over, join_over_in, sum_over_same, sum_over_plain, join_ticks, sum_join_ticks, in_join_ticks, join_ticks_in}

-- the instance that the task of the number i of the module k releases at tick t
abbrev pub instance_of : ℕ → ℕ → ℕ → Task → Instance
instance_of k t i task = record { module_number = k; task_number = i; release = t; due = t + task.LET; cost = task.cost }

-- that instance, if it is released in the state c and passes the test
abbrev pub of_task : (Instance → Bool) → State → ℕ → ℕ → ℕ → Task → List Instance
of_task keep c k t i task = cons_if (releases c task && keep (instance_of k t i task)) (instance_of k t i task) []

abbrev pub at_tick : (Instance → Bool) → Runs → ℕ → Module → ℕ → List Instance
at_tick keep ρs k m t = join_over (of_task keep (ρs k t) k t) (mode_of m (ρs k t)).tasks

-- those that are released in the n ticks from a on
abbrev pub of_module : (Instance → Bool) → Runs → ℕ → ℕ → ℕ → Module → List Instance
of_module keep ρs a n k m = join_ticks (at_tick keep ρs k m) a n

unfoldable pub listed : (Instance → Bool) → Sheet → Runs → ℕ → ℕ → List Instance
listed keep s ρs a n = join_over (of_module keep ρs a n) s.modules

-- What is in the list.

pub record Among (keep : Instance → Bool) (s : Sheet) (ρs : Runs) (a n : ℕ) (x : Instance) : Type 0 where
  pub is_instance : IsInstance s ρs x
  pub from : a ≤ x.release
  pub before : x.release < a + n
  pub kept : keep x ≡ true

cons_if_only : (b : Bool) (x y : Instance) → Memᴰ y (cons_if b x []) → (b ≡ true) × (y ≡ x)
cons_if_only true x y m = (refl, Memᴰ.eq_of_singleton m)
cons_if_only false x y m = absurd (Memᴰ.not-nil m)

cons_if_here : (b : Bool) (x y : Instance) → b ≡ true → y ≡ x → Memᴰ y (cons_if b x [])
cons_if_here b x y hb e = rw hb (Memᴰ.head e)

module _ (keep : Instance → Bool) (s : Sheet) (ρs : Runs) (a n : ℕ) where
  made : (k t i : ℕ) (m : Module) (task : Task) → Nth s.modules k m → a ≤ t → t < a + n → Nth (mode_of m (ρs k t)).tasks i task
      → releases (ρs k t) task && keep (instance_of k t i task) ≡ true → Among keep s ρs a n (instance_of k t i task)
  made k t i m task is_m from before is_task both =
      let e = (and-eq-true_iff (releases (ρs k t) task) (keep (instance_of k t i task))).0 both in
      record {
        is_instance =
            record {
              owner = m;
              task = task;
              is_owner = is_m;
              is_task = is_task;
              released = e.0;
              is_due = refl;
              is_cost = refl;
            };
        from = from;
        before = before;
        kept = e.1;
      }

  pub in_listed : (x : Instance) → Memᴰ x (listed keep s ρs a n) → Among keep s ρs a n x
  unfolding listed
  in_listed x h =
      let (k, m, is_m, h₁) = in_join_over (of_module keep ρs a n) s.modules x h in
      let (t, from, before, h₂) = in_join_ticks (at_tick keep ρs k m) a n x h₁ in
      let (i, task, is_task, h₃) = in_join_over (of_task keep (ρs k t) k t) (mode_of m (ρs k t)).tasks x h₂ in
      let (both, e) = cons_if_only (releases (ρs k t) task && keep (instance_of k t i task)) (instance_of k t i task) x h₃ in
      rw e (made k t i m task is_m from before is_task both)

  pub listed_in : (x : Instance) → Among keep s ρs a n x → Memᴰ x (listed keep s ρs a n)
  unfolding listed
  listed_in x h =
      join_over_in (of_module keep ρs a n) s.modules x k is.owner is.is_owner
      (join_ticks_in (at_tick keep ρs k is.owner) a n x t h.from h.before
      (join_over_in (of_task keep (ρs k t) k t) (mode_of is.owner (ρs k t)).tasks x i is.task is.is_task (cons_if_here _ _ x ((and-eq-true_iff _ _).1 (is.released, rw e at h.kept)) e)))
    where
      is : IsInstance s ρs x
      is = h.is_instance

      k : ℕ
      k = x.module_number

      t : ℕ
      t = x.release

      i : ℕ
      i = x.task_number

      e : x ≡ instance_of k t i is.task
      e = λ j. record { module_number = k; task_number = i; release = t; due = is.is_due j; cost = is.is_cost j }

-- What is added over it.

sum_cons_if : (f : Instance → ℕ) (b : Bool) (x : Instance) → sum_of f (cons_if b x []) ≡ when b (f x)
sum_cons_if f true x = add-zero (f x)
sum_cons_if f false x = refl

module _ (keep : Instance → Bool) (s : Sheet) (ρs : Runs) (a n : ℕ) where
  pub sum_of_module : (f : Instance → ℕ) (k : ℕ) (m : Module)
      → sum_of f (of_module keep ρs a n k m) ≡ ticks (λ t. sum_over (λ i task. sum_of f (of_task keep (ρs k t) k t i task)) (mode_of m (ρs k t)).tasks) a n
  sum_of_module f k m = sum_join_ticks f (at_tick keep ρs k m) a n ∙ ticks_same _ _ a n (λ t l. sum_join_over f (of_task keep (ρs k t) k t) (mode_of m (ρs k t)).tasks)

  pub sum_listed : (f : Instance → ℕ) → sum_of f (listed keep s ρs a n) ≡ sum_over (λ k m. sum_of f (of_module keep ρs a n k m)) s.modules
  unfolding listed
  sum_listed f = sum_join_over f (of_module keep ρs a n) s.modules

-- .. of the costs: the demand

abbrev pub due_by : ℕ → Instance → Bool
due_by b x = leb x.due b

-- the instances that are released at or after a and due at or before b
unfoldable pub inside : Sheet → Runs → ℕ → ℕ → List Instance
inside s ρs a b = listed (due_by b) s ρs a (b - a)

pub inside_demand : (s : Sheet) (ρs : Runs) (a b : ℕ) → sum_of (λ x. x.cost) (inside s ρs a b) ≡ sum_over (λ k m. demand m (ρs k) a b) s.modules
unfolding inside demand gain gain_of
inside_demand s ρs a b = sum_listed (due_by b) s ρs a (b - a) (λ x. x.cost) ∙ sum_over_same _ _ each s.modules
  where
    tick : (k : ℕ) (m : Module) (t : ℕ) → sum_over (λ i task. sum_of (λ x. x.cost) (of_task (due_by b) (ρs k t) k t i task)) (mode_of m (ρs k t)).tasks ≡ gain m (ρs k t) t b
    tick k m t =
        sum_over_same _ (λ i. gain_of (ρs k t) t b) (λ i task. sum_cons_if (λ x. x.cost) (releases (ρs k t) task && due_by b (instance_of k t i task)) (instance_of k t i task))
        (mode_of m (ρs k t)).tasks
        ∙ sum_over_plain (gain_of (ρs k t) t b) (mode_of m (ρs k t)).tasks

    each : (k : ℕ) (m : Module) → sum_of (λ x. x.cost) (of_module (due_by b) ρs a (b - a) k m) ≡ demand m (ρs k) a b
    each k m = sum_of_module (due_by b) s ρs a (b - a) (λ x. x.cost) k m ∙ ticks_same _ _ a (b - a) (λ t l. tick k m t)

pub in_inside : (s : Sheet) (ρs : Runs) (a b : ℕ) (x : Instance) → Memᴰ x (inside s ρs a b) → IsInstance s ρs x × (a ≤ x.release) × (x.due ≤ b)
unfolding inside
in_inside s ρs a b x m = let h = in_listed (due_by b) s ρs a (b - a) x m in (h.is_instance, h.from, leb-true x.due b h.kept)

pub inside_in : (s : Sheet) (ρs : Runs) (a b : ℕ) (x : Instance) → IsInstance s ρs x → a ≤ x.release → x.release < x.due → x.due ≤ b → Memᴰ x (inside s ρs a b)
unfolding inside
inside_in s ρs a b x is from proper l =
    listed_in (due_by b) s ρs a (b - a) x (record { is_instance = is; from = from; before = omega arith; kept = le-leb x.due b l })
