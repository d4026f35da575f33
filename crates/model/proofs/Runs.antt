-- `nexts` lists the states after one tick, and no others; in a module that keeps its rules there is one, and a run goes through every state. Assumes nothing.
use mathlib.Core.Path.{◌≡◌, refl}
use mathlib.Core.Logic.{◌⊎◌, inl, inr}
use mathlib.Core.Bool.{Bool, true, false}
use mathlib.Core.List.Memᴰ
use mathlib.Core.List.{List, [], ◌∷◌, Memᴰ}
use Prim.Native.Nat.{ℕ, zero, suc, ◌+◌, ◌%◌, ◌≤◌, ◌<◌}
use native.Mathlib.Nat.{zero-add}
use native.Mathlib.Decide.{dec_lt}
use native.Mathlib.Omega.{arith}
use lib.Dec.{ltb, eqb}
use lib.ListN.{length, get_or-eq_default}
use borrow.Author.Tests.{lt-ltb, eq-eqb, ltb-true, eqb-true}
use Rattle.model.specs.Lists.{max_of}
use Rattle.model.specs.Sheet.{Task, Switch, Module}
use Rattle.model.specs.WellFormed.{TaskRule, SwitchRule, ModeRule, ModuleRule}
use Rattle.model.specs.Run.{State, at, first, idle, mode_at, mode_of, Inside, Listed, Next, on, again, switched, Run, later, IsRun}
use Rattle.model.specs.Demand.{cons_if, targets, nexts}
use Rattle.model.proofs.Lists.{max_of_reached, all_mem, all_from_at}

-- The next states.

-- a member of a list that begins with x only where a test passes
cons_if_cases : {A : Type 0} (b : Bool) (x y : A) (xs : List A) → Memᴰ y (cons_if b x xs) → ((b ≡ true) × (y ≡ x)) ⊎ Memᴰ y xs
cons_if_cases true x y xs (Memᴰ.head e) = inl (refl, e)
cons_if_cases true x y xs (Memᴰ.tail h) = inr h
cons_if_cases false x y xs h = inr h

cons_if_here : {A : Type 0} (b : Bool) (x y : A) (xs : List A) → b ≡ true → y ≡ x → Memᴰ y (cons_if b x xs)
cons_if_here b x y xs hb e = rw hb (Memᴰ.head e)

cons_if_there : {A : Type 0} (b : Bool) (x y : A) (xs : List A) → Memᴰ y xs → Memᴰ y (cons_if b x xs)
cons_if_there true x y xs h = Memᴰ.tail h
cons_if_there false x y xs h = h

-- one of the switches leads to t, one tick after mode time d
Leads : ℕ → State → List Switch → Type 0
Leads d t ws = (w : Switch) × Memᴰ w ws × ((d + 1) % w.period ≡ 0) × (t ≡ at w.target 0)

targets_sound : (d : ℕ) (t : State) (ws : List Switch) → Memᴰ t (targets d ws) → Leads d t ws
unfolding Leads
targets_sound d t [] h = absurd (Memᴰ.not-nil h)
targets_sound d t (w ∷ ws) h = pick (cons_if_cases (eqb ((d + 1) % w.period) 0) _ t (targets d ws) h) (targets_sound d t ws)
  where
    pick : ((eqb ((d + 1) % w.period) 0 ≡ true) × (t ≡ at w.target 0)) ⊎ Memᴰ t (targets d ws) → (Memᴰ t (targets d ws) → Leads d t ws) → Leads d t (w ∷ ws)
    pick (inl p) below = (w, Memᴰ.head refl, eqb-true _ _ p.0, p.1)
    pick (inr k) below = let r = below k in (r.0, Memᴰ.tail r.1, r.2, r.3)

targets_complete : (d : ℕ) (t : State) (w : Switch) (ws : List Switch) → Memᴰ w ws → (d + 1) % w.period ≡ 0 → t ≡ at w.target 0 → Memᴰ t (targets d ws)
targets_complete d t w [] i hm ht = elim i [ ]
targets_complete d t w (v ∷ ws) (Memᴰ.head e) hm ht = cons_if_here _ _ t (targets d ws) (eq-eqb _ _ (rw e at hm)) (rw e at ht)
targets_complete d t w (v ∷ ws) (Memᴰ.tail h) hm ht = cons_if_there (eqb ((d + 1) % v.period) 0) (at v.target 0) t (targets d ws) (targets_complete d t w ws h hm ht)

-- what `nexts` lists behind the state on, and behind the state again
module _ (m : Module) (s : State) where
  switching : List State
  switching = targets s.time (mode_of m s).switches

  ending : List State
  ending = cons_if (eqb (s.time + 1) (mode_of m s).period) (at s.mode 0) switching

pub nexts_sound : (m : Module) (s t : State) → Memᴰ t (nexts m s) → Next m s t
unfolding nexts switching ending Leads
nexts_sound m s t h = front (cons_if_cases _ _ t (ending m s) h)
  where
    back : Leads s.time t (mode_of m s).switches → Next m s t
    back r = switched r.0 r.1 r.2 r.3

    middle : ((eqb (s.time + 1) (mode_of m s).period ≡ true) × (t ≡ at s.mode 0)) ⊎ Memᴰ t (switching m s) → Next m s t
    middle (inl p) = again (eqb-true _ _ p.0) p.1
    middle (inr k) = back (targets_sound s.time t (mode_of m s).switches k)

    front : ((ltb (s.time + 1) (mode_of m s).period ≡ true) × (t ≡ at s.mode (s.time + 1))) ⊎ Memᴰ t (ending m s) → Next m s t
    front (inl p) = on (ltb-true _ _ p.0) p.1
    front (inr k) = middle (cons_if_cases _ _ t (switching m s) k)

pub nexts_complete : (m : Module) (s t : State) → Next m s t → Memᴰ t (nexts m s)
unfolding nexts switching ending
nexts_complete m s t (on h e) = cons_if_here _ _ t (ending m s) (lt-ltb _ _ h) e
nexts_complete m s t (again h e) = cons_if_there (ltb (s.time + 1) (mode_of m s).period) (at s.mode (s.time + 1)) t (ending m s) (cons_if_here _ _ t (switching m s) (eq-eqb _ _ h) e)
nexts_complete m s t (switched w k h e) =
    cons_if_there (ltb (s.time + 1) (mode_of m s).period) (at s.mode (s.time + 1)) t (ending m s)
    (cons_if_there (eqb (s.time + 1) (mode_of m s).period) (at s.mode 0) t (switching m s) (targets_complete s.time t w (mode_of m s).switches k h e))

-- from a state inside its mode there is a next state
pub some_next : (m : Module) (s : State) → Inside m s → (t : State) × Next m s t
some_next m s h = pick (dec_lt (s.time + 1) (mode_of m s).period)
  where
    pick : Dec (s.time + 1 < (mode_of m s).period) → (t : State) × Next m s t
    pick (yes k) = (at s.mode (s.time + 1), on k refl)
    pick (no k) = (at s.mode 0, again (omega arith) refl)

-- a next state that reaches the largest value
pub best_next : (m : Module) (f : State → ℕ) (s : State) → Inside m s → (t : State) × Next m s t × (f t ≡ max_of f (nexts m s))
best_next m f s h =
    let t = some_next m s h in
    let y = max_of_reached f t.0 (nexts m s) (nexts_complete m s t.0 t.1) in
    (y.0, nexts_sound m s y.0 y.1, y.2)

-- A run behind a first state, and a run without its first state.

abbrev pub after : State → Run → Run
after s ρ zero = s
after s ρ (suc t) = ρ t

pub after_run : (m : Module) (s t : State) (ρ : Run) → Next m s t → IsRun m t ρ → IsRun m s (after s ρ)
after_run m s t ρ h r = record { starts = refl; steps = elim [ zero ↦ rw r.starts h | suc n ↦ r.steps n ] }

pub later_run : (m : Module) (s : State) (ρ : Run) → IsRun m s ρ → IsRun m (ρ 1) (later ρ)
later_run m s ρ r = record { starts = refl; steps = λ t. r.steps (suc t) }

pub second_next : (m : Module) (s : State) (ρ : Run) → IsRun m s ρ → Next m s (ρ 1)
second_next m s ρ r = rw r.starts at (r.steps 0)

-- What the rules of a module give.

pub idle_rule : (modes k : ℕ) → ModeRule modes k idle
idle_rule modes k = record { least = omega arith; most = omega arith; count = omega arith; tasks = tt; switches = tt; once = tt }

module _ (m : Module) (ok : ModuleRule m) where
  pub mode_rule : (k : ℕ) → k < length m.modes → ModeRule (length m.modes) k (mode_at m k)
  mode_rule k h = rw zero-add at (all_from_at (ModeRule (length m.modes)) idle 0 m.modes ok.modes k h)

  -- also that of the mode that a number outside the module names
  pub rule_at : (k : ℕ) → ModeRule (length m.modes) k (mode_at m k)
  rule_at k = pick (dec_lt k (length m.modes))
    where
      pick : Dec (k < length m.modes) → ModeRule (length m.modes) k (mode_at m k)
      pick (yes h) = mode_rule k h
      pick (no h) = rw (get_or-eq_default m.modes idle {n = k} (omega arith)) (idle_rule _ k)

  pub period_positive : (k : ℕ) → 1 ≤ (mode_at m k).period
  period_positive k = (rule_at k).least

  pub task_rule : (k : ℕ) (t : Task) → Memᴰ t (mode_at m k).tasks → TaskRule (mode_at m k).period t
  task_rule k t = all_mem (TaskRule (mode_at m k).period) t (mode_at m k).tasks (rule_at k).tasks

  pub switch_rule : (k : ℕ) (w : Switch) → Memᴰ w (mode_at m k).switches → SwitchRule (length m.modes) k (mode_at m k) w
  switch_rule k w = all_mem (SwitchRule (length m.modes) k (mode_at m k)) w (mode_at m k).switches (rule_at k).switches

  -- no switch leads to its own mode
  no_self : (k : ℕ) (w : Switch) → Memᴰ w (mode_at m k).switches → w.target ≡ k → ⊥
  no_self k w i = (switch_rule k w i).other

  pub next_inside : (s t : State) → Next m s t → Inside m t
  next_inside s t (on h e) = rw e h
  next_inside s t (again h e) = rw e (period_positive s.mode)
  next_inside s t (switched w k h e) = rw e (period_positive w.target)

  -- no tick leads out of the listed modes
  pub next_mode : (s t : State) → s.mode < length m.modes → Next m s t → t.mode < length m.modes
  next_mode s t h (on a e) = rw e h
  next_mode s t h (again a e) = rw e h
  next_mode s t h (switched w i a e) = rw e (switch_rule s.mode w i).there

  pub first_listed : Listed m first
  first_listed = record { mode = ok.least; time = period_positive 0 }

  pub next_listed : (s t : State) → Listed m s → Next m s t → Listed m t
  next_listed s t h n = record { mode = next_mode s t h.mode n; time = next_inside s t n }

  -- two different states after one tick have different modes
  pub next_apart : (s t u : State) → Next m s t → Next m s u → t.mode ≡ u.mode → t ≡ u
  next_apart s t u (on a p) (on b q) e = cc
  next_apart s t u (on a p) (again b q) e = absurd (omega arith)
  next_apart s t u (on a p) (switched v j b q) e = absurd (no_self s.mode v j (cc))
  next_apart s t u (again a p) (on b q) e = absurd (omega arith)
  next_apart s t u (again a p) (again b q) e = cc
  next_apart s t u (again a p) (switched v j b q) e = absurd (no_self s.mode v j (cc))
  next_apart s t u (switched w i a p) (on b q) e = absurd (no_self s.mode w i (cc))
  next_apart s t u (switched w i a p) (again b q) e = absurd (no_self s.mode w i (cc))
  next_apart s t u (switched w i a p) (switched v j b q) e = let target : w.target ≡ v.target = cc in cc

  -- a state for every tick, which stays in the mode
  onwards : (s : State) → Inside m s → ℕ → (t : State) × Inside m t
  onwards s h zero = (s, h)
  onwards s h (suc n) =
      let r = onwards s h n in
      let e = some_next m r.0 r.1 in
      (e.0, next_inside r.0 e.0 e.1)

  -- through every state inside its mode goes a run
  pub some_run : (s : State) → Inside m s → (ρ : Run) × IsRun m s ρ
  unfolding onwards
  some_run s h = (λ t. (onwards s h t).0, record { starts = refl; steps = λ t. (some_next m (onwards s h t).0 (onwards s h t).1).1 })
