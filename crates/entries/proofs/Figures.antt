-- A module's largest demand in a to b over runs from tick 0, its figure, is the largest state demand in b - a ticks over the states that are
-- reached at a; and for that only the states that release something due in time and the figure of the next start count. Assumes nothing.
use mathlib.Core.Path.{◌≡◌, refl, sym, ◌∙◌}
use mathlib.Core.Logic.{◌⊎◌, inl, inr, ⊎_elim}
use mathlib.Core.Bool.{Bool, true, false, ◌&&◌}
use mathlib.Core.List.{List, [], ◌∷◌, Memᴰ}
use Prim.Native.Nat.{ℕ, zero, suc, ◌+◌, ◌-◌, ◌≤◌, ◌<◌}
use native.Mathlib.Nat.{sub-zero, sub_self, suc-sub-suc, zero-add, le_trans}
use native.Mathlib.Omega.{arith}
use lib.Dec.{leb}
use borrow.Author.Tests.{leb-true}
use Rattle.model.specs.Lists.{when, sum_of, max_of, IsLargest}
use Rattle.model.specs.Sheet.{Task, Module}
use Rattle.model.specs.WellFormed.{ModuleRule}
use Rattle.model.specs.Run.{State, first, mode_of, Inside, Next, releases, gain_of, gain, ReachFrom, Reach}
use Rattle.model.specs.Demand.{nexts, value}
use Rattle.model.proofs.Lists.{le_max_of, max_of_reached}
use Rattle.model.proofs.Runs.{nexts_sound, nexts_complete, some_next, period_positive, next_inside}
use Rattle.model.proofs.Reaching.{from_next, from_second, from_last, from_same, from_on, reach_listed}
use Rattle.entries.specs.Entry.{Releasing}

-- What a state gains.

module _ (s : State) (L : ℕ) where
  -- one of the tasks releases an instance that is due within L ticks
  abbrev OneOf : List Task → Type 0
  OneOf ks = (k : Task) × Memᴰ k ks × (releases s k ≡ true) × (k.LET ≤ L)

  one_or_none : (ks : List Task) → OneOf ks ⊎ (sum_of (gain_of s 0 L) ks ≡ 0)
  unfolding gain_of
  one_or_none [] = inr refl
  one_or_none (k ∷ ks) = pick (releases s k) (leb (0 + k.LET) L) refl refl (one_or_none ks)
    where
      rest : OneOf ks ⊎ (sum_of (gain_of s 0 L) ks ≡ 0) → OneOf (k ∷ ks) ⊎ (0 + sum_of (gain_of s 0 L) ks ≡ 0)
      rest (inl r) = inl (r.0, Memᴰ.tail r.1, r.2, r.3)
      rest (inr e) = inr (omega arith)

      pick : (r d : Bool) → releases s k ≡ r → leb (0 + k.LET) L ≡ d → OneOf ks ⊎ (sum_of (gain_of s 0 L) ks ≡ 0)
          → OneOf (k ∷ ks) ⊎ (when (r && d) k.cost + sum_of (gain_of s 0 L) ks ≡ 0)
      pick true true hr hd below = inl (k, Memᴰ.head refl, hr, omega (arith, leb-true))
      pick true false hr hd below = rest below
      pick false d hr hd below = rest below

  releasing_or_none : (m : Module) → Releasing m s L ⊎ (gain m s 0 L ≡ 0)
  unfolding gain
  releasing_or_none m = ⊎_elim (λ r. inl (record { task = r.0; listed = r.1; released = r.2; due = r.3 })) inr (one_or_none (mode_of m s).tasks)

-- The largest of f over the next states.

module _ (m : Module) (f : State → ℕ) (s : State) where
  next_bound : (t : State) → Next m s t → f t ≤ max_of f (nexts m s)
  next_bound t n = le_max_of f t (nexts m s) (nexts_complete m s t n)

  next_attained : Inside m s → (t : State) × Next m s t × (f t ≡ max_of f (nexts m s))
  next_attained h =
      let n = some_next m s h in
      let y = max_of_reached f n.0 (nexts m s) (nexts_complete m s n.0 n.1) in
      (y.0, nexts_sound m s y.0 y.1, y.2)

value_next : (m : Module) (L : ℕ) (s t : State) → Next m s t → value m 0 L t ≤ value m 0 (suc L) s
unfolding value
value_next m L s t n = omega (arith, next_bound m (value m 0 L) s t n)

-- where the state gains nothing a next state is worth as much
value_idle : (m : Module) (L : ℕ) (s : State) → Inside m s → gain m s 0 (suc L) ≡ 0 → (t : State) × Next m s t × (value m 0 L t ≡ value m 0 (suc L) s)
unfolding value
value_idle m L s h e = let y = next_attained m (value m 0 L) s h in (y.0, y.1, y.2 ∙ omega arith)

-- The figure, also of runs from another state.

from_bound : (m : Module) (a b : ℕ) (s t : State) → ReachFrom m s a t → a ≤ b → value m 0 (b - a) t ≤ value m a b s
unfolding value
from_bound m zero b s t r l = let e : t ≡ s = sym r.2 ∙ r.1.starts in rw (e, sub-zero) (omega arith)
from_bound m (suc a) zero s t r l = absurd (omega arith)
from_bound m (suc a) (suc b) s t r l =
    let n = from_second m s t a r in
    rw (zero-add, suc-sub-suc) (le_trans (from_bound m a b n.0 t n.2 (omega arith)) (next_bound m (value m a b) s n.0 n.1))

module _ (m : Module) (ok : ModuleRule m) where
  from_attained : (a b : ℕ) (s : State) → Inside m s → a ≤ b → (t : State) × ReachFrom m s a t × (value m a b s ≡ value m 0 (b - a) t)
  unfolding value
  from_attained zero b s h l = (s, from_same m ok s h, rw sub-zero)
  from_attained (suc a) zero s h l = absurd (omega arith)
  from_attained (suc a) (suc b) s h l =
      let y = next_attained m (value m a b) s h in
      let r = from_attained a b y.0 (next_inside m ok s y.0 y.1) (omega arith) in
      (r.0, from_next m s y.0 r.0 a y.1 r.1, rw (zero-add, suc-sub-suc) (sym y.2 ∙ r.2))

  -- The theorems.

  pub figure_largest : (a b : ℕ) → a ≤ b → IsLargest (λ w. (s : State) × Reach m a s × (w ≡ value m 0 (b - a) s)) (value m a b first)
  figure_largest a b l = (from_attained a b first (period_positive m ok 0) l, λ w r. rw r.2 (from_bound m a b first r.0 r.1 l))

  pub figure_end : (b : ℕ) → value m b b first ≡ 0
  unfolding value
  figure_end b = let r = (figure_largest b b (omega arith)).0 in r.2 ∙ rw sub_self

  pub figure_later : (a b : ℕ) → a < b → value m (suc a) b first ≤ value m a b first
  figure_later a b l =
      let r = (figure_largest (suc a) b l).0 in
      let p = from_last m first r.0 a r.1 in
      let e : suc (b - suc a) ≡ b - a = omega arith in
      rw r.2 (le_trans (value_next m (b - suc a) p.0 r.0 p.2) (rw e (from_bound m a b first p.0 p.1 (omega arith))))

  pub figure_step : (a b : ℕ) → a < b → (v : ℕ) → value m (suc a) b first ≤ v
      → ((s : State) → Reach m a s → Releasing m s (b - a) → value m 0 (b - a) s ≤ v) → value m a b first ≤ v
  figure_step a b l v later releasing = rw r.2 (⊎_elim (releasing r.0 r.1) idle (releasing_or_none r.0 (b - a) m))
    where
      r : (s : State) × Reach m a s × (value m a b first ≡ value m 0 (b - a) s)
      r = from_attained a b first (period_positive m ok 0) (omega arith)

      e : b - a ≡ suc (b - suc a)
      e = omega arith

      idle : gain m r.0 0 (b - a) ≡ 0 → value m 0 (b - a) r.0 ≤ v
      idle none =
          let n = value_idle m (b - suc a) r.0 (reach_listed m ok a r.0 r.1).time (rw e at none) in
          rw (e, ← n.2) (le_trans (from_bound m (suc a) b first n.0 (from_on m ok first r.0 n.0 a r.1 n.1) l) later)
