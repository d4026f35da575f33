-- The largest value over the next states is that of the next state in the mode or of the targets whose switches are open; and the numbers that
-- tell a mode give these targets' heads, and its gains. Assumes nothing.
use mathlib.Core.Path.{◌≡◌, refl, sym, ap, ◌∙◌, fun_ext}
use mathlib.Core.Bool.{Bool, true, false, ◌&&◌}
use mathlib.Core.List.{List, [], ◌∷◌, Memᴰ}
use Prim.Native.Nat.{ℕ, zero, suc, ◌+◌, ◌*◌, ◌/◌, ◌%◌, ◌≤◌, ◌<◌, max}
use native.Mathlib.Nat.{le_antisymm, zero-add}
use native.Mathlib.Decide.{dec_lt}
use native.Mathlib.Omega.{arith}
use lib.Dec.{leb, eqb}
use lib.ListN.{length}
use borrow.Author.Tests.{lt-ltb, le-ltb, eq-eqb, ne_eqb, eqb-true}
use Rattle.model.specs.Lists.{when, sum_of, max_of, max_below, All}
use Rattle.model.specs.Sheet.{Task, Switch, Module}
use Rattle.model.specs.Flat.{task_numbers}
use Rattle.model.specs.WellFormed.{TaskRule}
use Rattle.model.specs.Run.{State, at, mode_at, gain_of, gain}
use Rattle.model.specs.Demand.{cons_if, targets, nexts}
use Rattle.model.proofs.Lists.{le_max_below, max_below_le}
use Rattle.model.proofs.Flat.{length_task_numbers}
use Rattle.layers.specs.declared.Shape.{Shape}
use Rattle.layers.specs.Step.{sum_below, look, lists, every, offer_of, offer, due, due_at, offered, gained}
use Rattle.layers.specs.Layer.{next, ModeTold}
use Rattle.layers.proofs.Sums.{sum_same}
use Rattle.layers.proofs.Turns.{turn_release}

-- The next states.

max_of_cons_if : {A : Type 0} (f : A → ℕ) (b : Bool) (x : A) (xs : List A) → max_of f (cons_if b x xs) ≡ max (when b (f x)) (max_of f xs)
max_of_cons_if f true x xs = refl
max_of_cons_if f false x xs = omega arith

pub nexts_split : (m : Module) (f : State → ℕ) (k d : ℕ) → d < (mode_at m k).period
    → max_of f (nexts m (at k d)) ≡ max (f (at k (next (mode_at m k).period d))) (max_of f (targets d (mode_at m k).switches))
unfolding nexts next
nexts_split m f k d h = pick (dec_lt (d + 1) (mode_at m k).period)
  where
    pick : Dec (d + 1 < (mode_at m k).period) → max_of f (nexts m (at k d)) ≡ max (f (at k (next (mode_at m k).period d))) (max_of f (targets d (mode_at m k).switches))
    pick (yes a) = rw (lt-ltb _ _ a, ne_eqb (d + 1) (mode_at m k).period (omega arith))
    pick (no a) =
        let last : (mode_at m k).period ≤ d + 1 = omega arith in
        rw (le-ltb _ _ last, eq-eqb (d + 1) (mode_at m k).period (omega arith))

-- The targets whose switches are open.

module _ (f : State → ℕ) (d : ℕ) where
  open_le : (w : Switch) (ws : List Switch) → Memᴰ w ws → (d + 1) % w.period ≡ 0 → f (at w.target 0) ≤ max_of f (targets d ws)
  open_le w [] i h = elim i [ ]
  open_le w (v ∷ ws) (Memᴰ.head e) h = rw e (rw (eq-eqb ((d + 1) % v.period) 0 (rw e at h)) (omega arith))
  open_le w (v ∷ ws) (Memᴰ.tail i) h = omega (arith, max_of_cons_if f (eqb ((d + 1) % v.period) 0) (at v.target 0) (targets d ws), open_le w ws i h)

  targets_le : (c : ℕ) (ws : List Switch) → ((w : Switch) → Memᴰ w ws → (d + 1) % w.period ≡ 0 → f (at w.target 0) ≤ c) → max_of f (targets d ws) ≤ c
  targets_le c [] h = omega arith
  targets_le c (w ∷ ws) h = pick (eqb ((d + 1) % w.period) 0) refl (targets_le c ws (λ v i. h v (Memᴰ.tail i)))
    where
      pick : (b : Bool) → eqb ((d + 1) % w.period) 0 ≡ b → max_of f (targets d ws) ≤ c → max_of f (cons_if b (at w.target 0) (targets d ws)) ≤ c
      pick true e i = omega (arith, h w (Memᴰ.head refl) (eqb-true _ _ e))
      pick false e i = i

-- The numbers tell the mode k, each switch leads to a mode of the module, the heads are the values of f, and the switches are open at the
-- position x where they are one tick after mode time d.
module _ (m : Module) (s : Shape) (numbers heads : List ℕ) (f : State → ℕ) (k : ℕ) (told : ModeTold m s numbers k)
    (there : (w : Switch) → Memᴰ w (mode_at m k).switches → w.target < s.modes) (are : (t : ℕ) → t < s.modes → look heads t ≡ f (at t 0))
    (n d x : ℕ) (opens : (t : ℕ) → t < s.modes → lists s k t ≡ true → eqb (x % every s k t) (n % every s k t) ≡ eqb ((d + 1) % every s k t) 0) where
  offer_le : (t : ℕ) → t < s.modes → offer s.listed s.every k heads n x t ≤ max_of f (targets d (mode_at m k).switches)
  unfolding offer_of
  offer_le t h = pick (lists s k t) refl (eqb (x % every s k t) (n % every s k t)) refl
    where
      pick : (a : Bool) → lists s k t ≡ a → (b : Bool) → eqb (x % every s k t) (n % every s k t) ≡ b → when (a && b) (look heads t) ≤ max_of f (targets d (mode_at m k).switches)
      pick true p true q =
          let r = told.only t h p in
          let w : Switch = r.0 in
          let e : w.target ≡ t = r.2 in
          let i : f (at w.target 0) ≤ max_of f (targets d (mode_at m k).switches) = open_le f d w (mode_at m k).switches r.1 (rw r.3 (eqb-true _ _ (sym (opens t h p) ∙ q))) in
          omega (arith, are t h, rw e at i)
      pick true p false q = omega arith
      pick false p b q = omega arith

  le_offer : (w : Switch) → Memᴰ w (mode_at m k).switches → (d + 1) % w.period ≡ 0 → f (at w.target 0) ≤ max_below (offer s.listed s.every k heads n x) s.modes
  unfolding offer_of
  le_offer w i h =
      let p = told.listed w i in
      let test : eqb (x % every s k w.target) (n % every s k w.target) ≡ true = opens w.target (there w i) p.0 ∙ eq-eqb ((d + 1) % every s k w.target) 0 (rw p.1 h) in
      let e : offer s.listed s.every k heads n x w.target ≡ look heads w.target = rw (p.0, test) in
      omega (arith, e, are w.target (there w i), le_max_below (offer s.listed s.every k heads n x) s.modes w.target (there w i))

  pub offered_is : (v : ℕ) → offered s.listed s.every k heads n s.modes x v ≡ max v (max_of f (targets d (mode_at m k).switches))
  unfolding offered
  offered_is v =
      ap (max v) (le_antisymm
      (max_below_le (offer s.listed s.every k heads n x) (max_of f (targets d (mode_at m k).switches)) s.modes offer_le)
      (targets_le f d (max_below (offer s.listed s.every k heads n x) s.modes) (mode_at m k).switches le_offer))

-- The tasks.

-- behind the first task's four numbers
module _ (k : Task) (ks : List Task) (i : ℕ) where
  pub behind : (j n : ℕ) → n ≡ 4 * suc i + j → look (task_numbers (k ∷ ks)) n ≡ look (task_numbers ks) (4 * i + j)
  behind j n e = let f : n ≡ suc (suc (suc (suc (4 * i + j)))) = omega arith in rw f

  pub behind_first : look (task_numbers (k ∷ ks)) (4 * suc i) ≡ look (task_numbers ks) (4 * i)
  behind_first = behind 0 (4 * suc i) (omega arith) ∙ ap (look (task_numbers ks)) (omega arith)

  due_behind : (l d : ℕ) → due (task_numbers (k ∷ ks)) l d (suc i) ≡ due (task_numbers ks) l d i
  unfolding due
  due_behind l d = rw (behind 2 (4 * suc i + 2) refl, behind 3 (4 * suc i + 3) refl, behind 1 (4 * suc i + 1) refl, behind_first)

-- a sum, its first first
sum_first : (f : ℕ → ℕ) (n : ℕ) → sum_below f (suc n) ≡ f 0 + sum_below (λ i. f (suc i)) n
sum_first f zero = omega arith
sum_first f (suc n) = omega (arith, sum_first f n)

when_swap : (a b : Bool) (n : ℕ) → when (a && b) n ≡ when (b && a) n
when_swap true true n = refl
when_swap true false n = refl
when_swap false true n = refl
when_swap false false n = refl

due_first : (k : Task) (ks : List Task) (q l d : ℕ) → due (task_numbers (k ∷ ks)) l d 0 ≡ gain_of (at q d) 0 l k
unfolding due gain_of
due_first k ks q l d = rw (zero-add k.LET) (when_swap (leb k.LET l) (eqb (d % k.period) k.offset) k.cost)

dues : (ks : List Task) (q l d : ℕ) → sum_below (due (task_numbers ks) l d) (length ks) ≡ sum_of (gain_of (at q d) 0 l) ks
dues [] q l d = refl
dues (k ∷ ks) q l d =
    omega (arith, sum_first (due (task_numbers (k ∷ ks)) l d) (length ks), due_first k ks q l d, ap (λ (g : ℕ → ℕ). sum_below g (length ks)) (fun_ext (λ i. due_behind k ks i l d)), dues ks q l d)

pub gains_are : (m : Module) (tasks : List ℕ) (k : ℕ) → tasks ≡ task_numbers (mode_at m k).tasks → (l d : ℕ) → sum_below (due tasks l d) (length tasks / 4) ≡ gain m (at k d) 0 l
unfolding gain
gains_are m tasks k e l d =
    let ks : List Task = (mode_at m k).tasks in
    let n : length (task_numbers ks) / 4 ≡ length ks = omega (arith, length_task_numbers ks) in
    rw (e, n) (dues ks k l d)

pub tasks_ready : (p : ℕ) (ks : List Task) → All (TaskRule p) ks → (i : ℕ) → i < length (task_numbers ks) / 4 → look (task_numbers ks) (4 * i) < look (task_numbers ks) (4 * i + 3)
tasks_ready p [] h i l = absurd (omega arith)
tasks_ready p (k ∷ ks) h zero l = let r : TaskRule p k = h.0 in omega arith
tasks_ready p (k ∷ ks) h (suc i) l = rw (behind k ks i 3 (4 * suc i + 3) refl, behind_first k ks i) (tasks_ready p ks h.1 i (omega arith))

tasks_divide : (p : ℕ) (ks : List Task) → All (TaskRule p) ks → (i : ℕ) → i < length (task_numbers ks) / 4 → p % look (task_numbers ks) (4 * i + 3) ≡ 0
tasks_divide p [] h i l = absurd (omega arith)
tasks_divide p (k ∷ ks) h zero l = let r : TaskRule p k = h.0 in r.divides
tasks_divide p (k ∷ ks) h (suc i) l = rw (behind k ks i 3 (4 * suc i + 3) refl) (tasks_divide p ks h.1 i (omega arith))

-- at the position of mode time d a task gains what it gains there
due_turned : (tasks : List ℕ) (p l n d i : ℕ) → p % look tasks (4 * i + 3) ≡ 0 → look tasks (4 * i) < look tasks (4 * i + 3) → due_at tasks l n ((d + (n + 1)) % p) i ≡ due tasks l d i
unfolding due due_at
due_turned tasks p l n d i divides ready = rw (turn_release p (look tasks (4 * i + 3)) (omega arith) divides d (look tasks (4 * i)) n ready)

pub gained_is : (m : Module) (tasks : List ℕ) (k p : ℕ) → tasks ≡ task_numbers (mode_at m k).tasks → All (TaskRule p) (mode_at m k).tasks
    → (l n d v : ℕ) → gained tasks l n (length tasks / 4) ((d + (n + 1)) % p) v ≡ v + gain m (at k d) 0 l
unfolding gained
gained_is m tasks k p e rules l n d v =
    let ready : (i : ℕ) → i < length tasks / 4 → look tasks (4 * i) < look tasks (4 * i + 3) = rw e (tasks_ready p (mode_at m k).tasks rules) in
    let divides : (i : ℕ) → i < length tasks / 4 → p % look tasks (4 * i + 3) ≡ 0 = rw e (tasks_divide p (mode_at m k).tasks rules) in
    ap (λ (y : ℕ). v + y) (sum_same (due_at tasks l n ((d + (n + 1)) % p)) (due tasks l d) (length tasks / 4) (λ i h. due_turned tasks p l n d i (divides i h) (ready i h)) ∙ gains_are m tasks k e l d)
