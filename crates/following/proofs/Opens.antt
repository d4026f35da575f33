-- `opens` tells the modes that can be begun one tick after a state; so a next state goes on in the stay or begins a mode that opens, and the
-- largest value after a state is that of the stay and of the modes that open. Assumes nothing.
use mathlib.Core.Path.{◌≡◌, refl, sym, ap}
use mathlib.Core.Logic.{◌⊎◌, inl, inr}
use mathlib.Core.Bool.{Bool, true, false, ◌&&◌, false≢true, and-eq-true_iff}
use mathlib.Core.List.{List, [], ◌∷◌, Memᴰ}
use Prim.Native.Nat.{ℕ, ◌+◌, ◌%◌, ◌≤◌, ◌<◌, max}
use native.Mathlib.Nat.{le_antisymm, le_trans, max-le, le-max_left, le-max_right}
use native.Mathlib.Omega.{arith}
use lib.Dec.{eqb}
use borrow.Author.Tests.{ltb-true, lt-ltb, eqb-true, eq-eqb}
use Rattle.model.specs.Lists.{when, max_of, max_below}
use Rattle.model.specs.Sheet.{Switch, Module, modes_in}
use Rattle.model.specs.WellFormed.{ModuleRule}
use Rattle.model.specs.Run.{State, at, mode_of, Listed, Next, on, again, switched}
use Rattle.model.specs.Demand.{nexts}
use Rattle.model.proofs.Lists.{le_max_of, le_max_below, max_below_reached, or_either, or_right}
use Rattle.model.proofs.Runs.{next_mode, nexts_complete, best_next}
use Rattle.following.specs.Follow.{leads, opens, stay, stays, Follows, in_stay, at_head}

-- The switches.

-- one of them leads to mode j, one tick after mode time d
abbrev Leading : ℕ → ℕ → List Switch → Type 0
Leading d j ws = (w : Switch) × Memᴰ w ws × (w.target ≡ j) × ((d + 1) % w.period ≡ 0)

leads_sound : (d j : ℕ) (ws : List Switch) → leads d ws j ≡ true → Leading d j ws
leads_sound d j [] e = absurd (false≢true e)
leads_sound d j (w ∷ ws) e = pick (or_either _ _ e) (leads_sound d j ws)
  where
    pick : (eqb w.target j && eqb ((d + 1) % w.period) 0 ≡ true) ⊎ (leads d ws j ≡ true) → (leads d ws j ≡ true → Leading d j ws) → Leading d j (w ∷ ws)
    pick (inl h) below = let b = (and-eq-true_iff _ _).0 h in (w, Memᴰ.head refl, eqb-true _ _ b.0, eqb-true _ _ b.1)
    pick (inr h) below = let r = below h in (r.0, Memᴰ.tail r.1, r.2, r.3)

leads_complete : (d j : ℕ) (w : Switch) (ws : List Switch) → Memᴰ w ws → w.target ≡ j → (d + 1) % w.period ≡ 0 → leads d ws j ≡ true
leads_complete d j w [] i ht hm = elim i [ ]
leads_complete d j w (v ∷ ws) (Memᴰ.head e) ht hm = rw (eq-eqb v.target j (rw e at ht), eq-eqb ((d + 1) % v.period) 0 (rw e at hm))
leads_complete d j w (v ∷ ws) (Memᴰ.tail h) ht hm = or_right (eqb v.target j && eqb ((d + 1) % v.period) 0) _ (leads_complete d j w ws h ht hm)

-- The next states.

module _ (m : Module) (s : State) where
  -- mode j is the mode of s, which ends one tick after s
  ends : ℕ → Bool
  ends j = eqb s.mode j && eqb (s.time + 1) (mode_of m s).period

  pub opens_next : (j : ℕ) → opens m s j ≡ true → Next m s (at j 0)
  unfolding opens ends
  opens_next j e = pick (or_either (ends j) (leads s.time (mode_of m s).switches j) e)
    where
      pick : (ends j ≡ true) ⊎ (leads s.time (mode_of m s).switches j ≡ true) → Next m s (at j 0)
      pick (inl h) = let b = (and-eq-true_iff _ _).0 h in again (eqb-true _ _ b.1) (ap (λ (k : ℕ). at k 0) (sym (eqb-true _ _ b.0)))
      pick (inr h) = let r = leads_sound s.time j (mode_of m s).switches h in switched r.0 r.1 r.3 (ap (λ (k : ℕ). at k 0) (sym r.2))

  pub next_cases : (t : State) → Next m s t → Follows m s t
  unfolding opens ends
  next_cases t (on h e) = in_stay h e
  next_cases t (again h e) = at_head s.mode (rw (eq-eqb s.mode s.mode refl, eq-eqb (s.time + 1) (mode_of m s).period h)) e
  next_cases t (switched w i h e) = at_head w.target (or_right (ends w.target) _ (leads_complete s.time w.target w (mode_of m s).switches i refl h)) e

-- a mode that opens is one of the module's
pub opens_below : (m : Module) → ModuleRule m → (s : State) → s.mode < modes_in m → (j : ℕ) → opens m s j ≡ true → j < modes_in m
opens_below m ok s l j e = next_mode m ok s (at j 0) l (opens_next m s j e)

-- The largest value.

module _ (m : Module) (s : State) (f : State → ℕ) where
  -- of the state on in the stay, where that goes on, and of the first state of mode j, where that opens
  of_stay : ℕ
  of_stay = when (stays m s) (f (stay s))

  of_head : ℕ → ℕ
  of_head j = when (opens m s j) (f (at j 0))

  next_most : (t : State) → Next m s t → f t ≤ max_of f (nexts m s)
  next_most t h = le_max_of f t (nexts m s) (nexts_complete m s t h)

  stay_most : of_stay ≤ max_of f (nexts m s)
  unfolding of_stay
  stay_most = pick (stays m s) refl
    where
      pick : (c : Bool) → stays m s ≡ c → when c (f (stay s)) ≤ max_of f (nexts m s)
      pick true e = next_most (stay s) (on (ltb-true _ _ e) refl)
      pick false e = omega arith

  head_most : (j : ℕ) → of_head j ≤ max_of f (nexts m s)
  unfolding of_head
  head_most j = pick (opens m s j) refl
    where
      pick : (c : Bool) → opens m s j ≡ c → when c (f (at j 0)) ≤ max_of f (nexts m s)
      pick true e = next_most (at j 0) (opens_next m s j e)
      pick false e = omega arith

module _ (m : Module) (ok : ModuleRule m) (s : State) (in-mode : Listed m s) (f : State → ℕ) where
  split_most : (t : State) → Follows m s t → f t ≤ max (of_stay m s f) (max_below (of_head m s f) (modes_in m))
  unfolding of_stay of_head
  split_most t (in_stay h e) = rw (e, lt-ltb _ _ h) (le-max_left (f (stay s)) _)
  split_most t (at_head j h e) =
      let least = rw h at (le_max_below (of_head m s f) (modes_in m) j (opens_below m ok s in-mode.mode j h)) in
      rw e (le_trans least (le-max_right (of_stay m s f) _))

  pub value_split : max_of f (nexts m s) ≡ max (when (stays m s) (f (stay s))) (max_below (λ j. when (opens m s j) (f (at j 0))) (modes_in m))
  unfolding of_stay of_head
  value_split =
      let t = best_next m f s in-mode.time in
      let k = max_below_reached (of_head m s f) (modes_in m) ok.least in
      le_antisymm (rw t.2 at (split_most t.0 (next_cases m s t.0 t.1))) (max-le (stay_most m s f) (rw k.2 at (head_most m s f k.0)))
