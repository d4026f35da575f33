-- Which states the runs of a module have at a tick: by their first tick, by their last, and one tick more; and what holds of them all. Assumes nothing.
use mathlib.Core.Path.{◌≡◌, refl, sym, ◌∙◌}
use Prim.Native.Nat.{ℕ, zero, suc, ◌+◌, ◌-◌, ◌≤◌, ◌<◌}
use native.Mathlib.Nat.{add-zero, add-suc}
use native.Mathlib.Numerals.{add-one}
use native.Mathlib.Omega.{arith}
use Rattle.model.specs.Sheet.{Module}
use Rattle.model.specs.WellFormed.{ModuleRule}
use Rattle.model.specs.Run.{State, at, first, mode_at, Inside, Listed, Next, later, ReachFrom, Reach}
use Rattle.model.proofs.Runs.{first_listed, next_listed, after, after_run, later_run, second_next, next_inside, some_run}

-- What a run has, by its first tick and by its last.

module _ (m : Module) where
  pub from_next : (s t u : State) (a : ℕ) → Next m s t → ReachFrom m t a u → ReachFrom m s (suc a) u
  from_next s t u a n r = (after s r.0, after_run m s t r.0 n r.1, r.2)

  pub from_second : (s u : State) (a : ℕ) → ReachFrom m s (suc a) u → (t : State) × Next m s t × ReachFrom m t a u
  from_second s u a r = (r.0 1, second_next m s r.0 r.1, (later r.0, later_run m s r.0 r.1, r.2))

  pub from_last : (s u : State) (a : ℕ) → ReachFrom m s (suc a) u → (t : State) × ReachFrom m s a t × Next m t u
  from_last s u a r = (r.0 a, (r.0, r.1, refl), rw r.2 at (r.1.steps a))

  -- what holds of the first state, and of a next state where it holds of a state, holds of every state that is reached
  pub reach_keeps : (P : ℕ → State → Type 0) → P 0 first → ((a : ℕ) (s t : State) → P a s → Next m s t → P (suc a) t) → (a : ℕ) (s : State) → Reach m a s → P a s
  reach_keeps P start step zero s r = rw (sym r.2 ∙ r.1.starts) start
  reach_keeps P start step (suc a) s r = let l = from_last first s a r in step a l.0 s (reach_keeps P start step a l.0 l.1) l.2

-- A module that keeps its rules.

module _ (m : Module) (ok : ModuleRule m) where
  -- no tick
  pub from_same : (s : State) → Inside m s → ReachFrom m s 0 s
  from_same s h = let r = some_run m ok s h in (r.0, r.1, r.1.starts)

  -- one tick more
  pub from_on : (s t u : State) (a : ℕ) → ReachFrom m s a t → Next m t u → ReachFrom m s (suc a) u
  from_on s t u zero r n = from_next m s u u 0 (rw (sym r.2 ∙ r.1.starts) at n) (from_same u (next_inside m ok t u n))
  from_on s t u (suc a) r n = let l = from_second m s t a r in from_next m s l.0 u (suc a) l.1 (from_on l.0 t u a l.2 n)

  -- they are of listed modes
  pub reach_listed : (a : ℕ) (s : State) → Reach m a s → Listed m s
  reach_listed = reach_keeps m (λ a. Listed m) (first_listed m ok) (λ a. next_listed m ok)

  -- the states of a stay
  pub stay : (k e d : ℕ) → Reach m e (at k 0) → d < (mode_at m k).period → Reach m (e + d) (at k d)
  stay k e zero r h = rw add-zero r
  stay k e (suc d) r h = rw add-suc (from_on first (at k d) (at k (suc d)) (e + d) (stay k e d r (omega arith)) (Next.on (omega arith) (rw add-one)))

  -- the state that follows the n first mode times
  pub leave : (k e n : ℕ) (t : State) → Reach m e (at k 0) → 1 ≤ n → n ≤ (mode_at m k).period → Next m (at k (n - 1)) t → Reach m (e + n) t
  leave k e n t r one fits h =
      let q : e + n ≡ suc (e + (n - 1)) = omega arith in
      rw q (from_on first (at k (n - 1)) t (e + (n - 1)) (stay k e (n - 1) r (omega arith)) h)
