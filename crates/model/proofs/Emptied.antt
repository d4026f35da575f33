-- A module of which some modes are made idle keeps its rules; where nothing that is kept leads to what is not, the values of the states of kept
-- modes stay; so the largest demand over all its states is the one over the kept modes. Assumes nothing.
use mathlib.Core.Path.{◌≡◌, refl, ◌∙◌, ap}
use mathlib.Core.Bool.{Bool, true, false, cond}
use mathlib.Core.List.Memᴰ
use mathlib.Core.List.{List, [], ◌∷◌, Memᴰ}
use Prim.Native.Nat.{ℕ, zero, suc, pred, ◌+◌, ◌*◌, ◌≤◌, ◌<◌}
use native.Mathlib.Nat.{add-suc, add-zero, suc-add, zero-add}
use native.Mathlib.Omega.{arith}
use lib.ListN.{length, get_or}
use Rattle.model.specs.Lists.{when, sum_of, max_of, max_below, AllFrom}
use Rattle.model.specs.Sheet.{Switch, Mode, Module, absent}
use Rattle.model.specs.WellFormed.{ModeRule, ModuleRule}
use Rattle.model.specs.Run.{State, at, idle, mode_at, mode_of, Reached, target_of, Next, gain_of, gain}
use Rattle.model.specs.Demand.{nexts, gain_first, value, reached, in_mode, listed_demand, module_demand}
use Rattle.model.specs.Emptied.{emptied_from, emptied, reached_part}
use Rattle.model.proofs.Lists.{max_of_same, max_of_zero, max_below_same}
use Rattle.model.proofs.Runs.{nexts_sound, idle_rule}
use Rattle.model.proofs.Rounds.{reached_true, true_reached}
use Rattle.model.proofs.Bounds.{listed_bound}

-- Two modules that have the same modes where a run can come to have the same values there.

module _ (n m : Module) where
  first_same : (a b : ℕ) (s : State) → mode_of n s ≡ mode_of m s → gain_first n a b s ≡ gain_first m a b s
  unfolding gain
  first_same zero b s e = ap (λ (o : Mode). sum_of (gain_of s 0 b) o.tasks) e
  first_same (suc a) b s e = refl

  nexts_same : (s : State) → mode_of n s ≡ mode_of m s → nexts n s ≡ nexts m s
  unfolding nexts
  nexts_same s e = rw e

  value_same : (P : State → Type 0) → ((s : State) → P s → mode_of n s ≡ mode_of m s) → ((s t : State) → P s → Next m s t → P t) → (b a : ℕ) (s : State) → P s → value n a b s ≡ value m a b s
  unfolding value
  value_same P same keeps zero a s h = refl
  value_same P same keeps (suc b) a s h =
      let e = same s h in
      let rest : max_of (value n (pred a) b) (nexts n s) ≡ max_of (value m (pred a) b) (nexts m s) =
      rw (nexts_same s e) (max_of_same (value n (pred a) b) (value m (pred a) b) (nexts m s) (λ t i. value_same P same keeps b (pred a) t (keeps s t h (nexts_sound m s t i)))) in
      omega (arith, first_same a (suc b) s e, rest)

-- A module without modes has none.

first_none : (a b : ℕ) (s : State) → gain_first absent a b s ≡ 0
unfolding gain
first_none zero b s = refl
first_none (suc a) b s = refl

none_value : (b a : ℕ) (s : State) → value absent a b s ≡ 0
unfolding value
none_value zero a s = refl
none_value (suc b) a s =
    let rest : max_of (value absent (pred a) b) (nexts absent s) ≡ 0 = max_of_same (value absent (pred a) b) (λ t. 0) (nexts absent s) (λ t i. none_value b (pred a) t) ∙ max_of_zero (nexts absent s) in
    omega (arith, first_none a (suc b) s, rest)

none_next : (s t : State) → Next absent s t → t.mode ≡ s.mode
none_next s t (Next.on a e) = rw e
none_next s t (Next.again a e) = rw e
none_next s t (Next.switched w i a e) = absurd (Memᴰ.not-nil i)

-- The modes of a module of which some are made idle.

cond_same : {A : Type 0} (b : Bool) (x : A) → cond b x x ≡ x
cond_same true x = refl
cond_same false x = refl

from_at : (kept : ℕ → Bool) (i : ℕ) (os : List Mode) (k : ℕ) → get_or (emptied_from kept i os) k idle ≡ cond (kept (i + k)) (get_or os k idle) idle
from_at kept i [] k = rw (cond_same (kept (i + k)) idle)
from_at kept i (o ∷ os) zero = rw (add-zero i)
from_at kept i (o ∷ os) (suc k) = rw (add-suc i k) (rw (suc-add i k) at (from_at kept (suc i) os k))

from_length : (kept : ℕ → Bool) (i : ℕ) (os : List Mode) → length (emptied_from kept i os) ≡ length os
from_length kept i [] = refl
from_length kept i (o ∷ os) = omega (arith, from_length kept (suc i) os)

from_rule : (kept : ℕ → Bool) (modes i : ℕ) (os : List Mode) → AllFrom (ModeRule modes) i os → AllFrom (ModeRule modes) i (emptied_from kept i os)
from_rule kept modes i [] h = tt
from_rule kept modes i (o ∷ os) h = (pick (kept i), from_rule kept modes (suc i) os h.1)
  where
    pick : (b : Bool) → ModeRule modes i (cond b o idle)
    pick true = h.0
    pick false = idle_rule modes i

from_alike : (kept other : ℕ → Bool) (i : ℕ) (os : List Mode) → ((k : ℕ) → k < length os → kept (i + k) ≡ other (i + k)) → emptied_from kept i os ≡ emptied_from other i os
from_alike kept other i [] h = refl
from_alike kept other i (o ∷ os) h =
    let here : kept i ≡ other i = rw (add-zero i) at (h 0 (omega arith)) in
    rw (here, from_alike kept other (suc i) os (λ k l. rw (suc-add i k, ← add-suc i k) (h (suc k) (omega arith))))

-- what is kept past the modes does not matter
pub emptied_same : (kept other : ℕ → Bool) (m : Module) → ((k : ℕ) → k < length m.modes → kept k ≡ other k) → emptied kept m ≡ emptied other m
unfolding emptied
emptied_same kept other m h = rw (from_alike kept other 0 m.modes (λ k l. rw zero-add (h k l)))

module _ (kept : ℕ → Bool) (m : Module) where
  pub emptied_at : (k : ℕ) → mode_at (emptied kept m) k ≡ cond (kept k) (mode_at m k) idle
  unfolding emptied
  emptied_at k = rw zero-add at (from_at kept 0 m.modes k)

  pub emptied_length : length (emptied kept m).modes ≡ length m.modes
  unfolding emptied
  emptied_length = from_length kept 0 m.modes

  pub emptied_rule : ModuleRule m → ModuleRule (emptied kept m)
  unfolding emptied
  emptied_rule ok = record {
    least = omega (arith, ok.least, emptied_length);
    most = omega (arith, ok.most, emptied_length);
    modes = rw emptied_length (from_rule kept (length m.modes) 0 m.modes ok.modes);
  }

  kept_mode : (k : ℕ) → kept k ≡ true → mode_at (emptied kept m) k ≡ mode_at m k
  kept_mode k h = emptied_at k ∙ rw h

  idle_mode : (k : ℕ) → kept k ≡ false → mode_at (emptied kept m) k ≡ idle
  idle_mode k h = emptied_at k ∙ rw h

  -- The values of its states.

  idle_value : (b a : ℕ) (s : State) → kept s.mode ≡ false → value (emptied kept m) a b s ≡ 0
  idle_value b a s h = value_same (emptied kept m) absent (λ t. kept t.mode ≡ false) (λ t. idle_mode t.mode) (λ t u e n. rw (none_next t u n) e) b a s h ∙ none_value b a s

  -- where nothing that is kept leads to what is not
  module _ (closed : (k : ℕ) (w : Switch) → kept k ≡ true → Memᴰ w (mode_at m k).switches → kept w.target ≡ true) where
    next_kept : (s t : State) → kept s.mode ≡ true → Next m s t → kept t.mode ≡ true
    next_kept s t h (Next.on a e) = rw e h
    next_kept s t h (Next.again a e) = rw e h
    next_kept s t h (Next.switched w i a e) = rw e (closed s.mode w h i)

    pub kept_value : (b a : ℕ) (s : State) → kept s.mode ≡ true → value (emptied kept m) a b s ≡ value m a b s
    kept_value = value_same (emptied kept m) m (λ s. kept s.mode ≡ true) (λ s. kept_mode s.mode) next_kept

    pub kept_demand : (L : ℕ) → listed_demand (emptied kept m) L ≡ max_below (λ k. when (kept k) (in_mode m L k)) (length m.modes)
    unfolding listed_demand
    kept_demand L = ap (max_below (in_mode (emptied kept m) L)) emptied_length ∙ max_below_same _ _ (length m.modes) (λ k h. each k (kept k) refl)
      where
        each : (k : ℕ) (b : Bool) → kept k ≡ b → in_mode (emptied kept m) L k ≡ when (kept k) (in_mode m L k)
        each k true e = rw (kept_mode k e, e) (max_below_same _ _ (mode_at m k).period (λ d h. kept_value L 0 (at k d) e))
        each k false e = rw (idle_mode k e, e) (omega (arith, idle_value L 0 (at k 0) e))

-- The reached modes.

-- nothing that is reached leads to what is not
closed_reached : (m : Module) (k : ℕ) (w : Switch) → reached m k ≡ true → Memᴰ w (mode_at m k).switches → reached m w.target ≡ true
closed_reached m k w h i = reached_true m w.target (target_of k w (true_reached m k h) i)

pub reached_value : (m : Module) (b a : ℕ) (s : State) → Reached m s.mode → value (reached_part m) a b s ≡ value m a b s
reached_value m b a s h = kept_value (reached m) m (closed_reached m) b a s (reached_true m s.mode h)

pub reached_part_lem : (m : Module) (L : ℕ) → listed_demand (reached_part m) L ≡ module_demand m L
unfolding module_demand
reached_part_lem m = kept_demand (reached m) m (closed_reached m)

-- at most 16 for each tick
pub module_bound : (m : Module) → ModuleRule m → (L : ℕ) → module_demand m L ≤ 16 * L
module_bound m ok L = rw (reached_part_lem m L) at (listed_bound (reached_part m) (emptied_rule (reached m) m ok) L)
