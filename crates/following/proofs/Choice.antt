-- Where a tape goes on: in the stay, or in the lowest mode that opens and has the largest value after the state. Assumes nothing.
use mathlib.Core.Path.{◌≡◌, refl, sym, ◌∙◌, ap}
use mathlib.Core.Logic.{◌⊎◌, inl, inr, ⊎_elim}
use mathlib.Core.Bool.{Bool, true, false, cond, ◌&&◌, and-eq-true_iff}
use Prim.Native.Nat.{ℕ, ◌+◌, ◌≤◌, ◌<◌}
use native.Mathlib.Omega.{arith}
use lib.Dec.{eqb, ltb}
use borrow.Author.Tests.{ltb-true, ltb-false, eqb-true, eqb-false, eq-eqb}
use Rattle.model.specs.Lists.{max_of}
use Rattle.model.specs.Sheet.{Module, modes_in}
use Rattle.model.specs.WellFormed.{ModuleRule}
use Rattle.model.specs.Run.{State, at, mode_of, Listed, Next, on}
use Rattle.model.specs.Demand.{nexts}
use Rattle.model.specs.Tape.{chosen}
use Rattle.model.proofs.Runs.{nexts_sound, nexts_complete, some_next, best_next, next_inside, next_apart}
use Rattle.model.proofs.Tapes.{chosen_in, chosen_best, chosen_max}
use Rattle.following.specs.Follow.{opens, stay, stays, Follows, in_stay, at_head, attains, head, follow}
use Rattle.following.proofs.Opens.{opens_next, next_cases, opens_below}
use Rattle.following.proofs.Lowest.{lowest_passes, lowest_least}

-- The chosen state is a next state that has the largest value; of those it is the one of the lowest mode.

module _ (m : Module) (ok : ModuleRule m) (s : State) (in-mode : Listed m s) (f : State → ℕ) where
  pub chosen_next : Next m s (chosen f s (nexts m s))
  chosen_next =
      let t = some_next m s in-mode.time in
      nexts_sound m s _ (chosen_in f s t.0 (nexts m s) (nexts_complete m s t.0 t.1))

  pub chosen_listed : Listed m (chosen f s (nexts m s))
  chosen_listed = record { mode = below _ (next_cases m s _ chosen_next); time = next_inside m ok s _ chosen_next }
    where
      below : (t : State) → Follows m s t → t.mode < modes_in m
      below t (in_stay l e) = rw e in-mode.mode
      below t (at_head j o e) = rw e (opens_below m ok s in-mode.mode j o)

  pub chosen_top : f (chosen f s (nexts m s)) ≡ max_of f (nexts m s)
  chosen_top =
      let t = some_next m s in-mode.time in
      chosen_max f s t.0 (nexts m s) (nexts_complete m s t.0 t.1)

  chosen_is : (t : State) → Next m s t → f t ≡ max_of f (nexts m s) → ((u : State) → Next m s u → f u ≡ max_of f (nexts m s) → t.mode ≤ u.mode) → chosen f s (nexts m s) ≡ t
  chosen_is t n e lowest =
      let low = lowest _ chosen_next chosen_top in
      let best = (chosen_best f s t (nexts m s) (nexts_complete m s t n)).1 (e ∙ sym chosen_top) in
      next_apart m ok s _ t chosen_next n (omega arith)

-- Where the tape goes on, for top the largest value.

module _ (m : Module) (ok : ModuleRule m) (s : State) (in-mode : Listed m s) (f : State → ℕ) (top : ℕ) (is_top : top ≡ max_of f (nexts m s)) where
  -- The mode `head`.

  head_attains : head m f s top < modes_in m → (opens m s (head m f s top) ≡ true) × (f (at (head m f s top) 0) ≡ top)
  unfolding head
  head_attains l = let b = (and-eq-true_iff _ _).0 (lowest_passes (attains m f s top) (modes_in m) l) in (b.0, eqb-true _ _ b.1)

  head_least : (j : ℕ) → opens m s j ≡ true → f (at j 0) ≡ top → head m f s top ≤ j
  unfolding head
  head_least j o e = lowest_least (attains m f s top) (modes_in m) j (opens_below m ok s in-mode.mode j o) (rw (o, eq-eqb _ _ e))

  -- one of the next states has the top: the stay, or a mode that opens
  stay_or_head : ((s.time + 1 < (mode_of m s).period) × (f (stay s) ≡ top)) ⊎ (head m f s top < modes_in m)
  stay_or_head = let t = best_next m f s in-mode.time in pick t.0 (t.2 ∙ sym is_top) (next_cases m s t.0 t.1)
    where
      pick : (t : State) → f t ≡ top → Follows m s t → ((s.time + 1 < (mode_of m s).period) × (f (stay s) ≡ top)) ⊎ (head m f s top < modes_in m)
      pick t h (in_stay l e) = inl (l, rw e at h)
      pick t h (at_head j o e) = inr (omega (arith, head_least j o (rw e at h), opens_below m ok s in-mode.mode j o))

  -- where no mode that opens has the top the stay has it
  pub stay_forced : head m f s top ≡ modes_in m → (s.time + 1 < (mode_of m s).period) × (f (stay s) ≡ top)
  stay_forced e = ⊎_elim (λ h. h) (λ l. absurd (omega arith)) stay_or_head

  -- where the stay is over or has not the top a mode that opens has it
  pub head_found : (s.time + 1 < (mode_of m s).period → f (stay s) ≡ top → ⊥) → head m f s top < modes_in m
  head_found none = ⊎_elim (λ h. absurd (none h.0 h.1)) (λ l. l) stay_or_head

  -- while the stay goes on it is not the mode of s, since no switch leads to its own mode
  pub head_apart : s.time + 1 < (mode_of m s).period → head m f s top ≡ s.mode → ⊥
  head_apart l e =
      let h = head_attains (rw e in-mode.mode) in
      let same : at (head m f s top) 0 ≡ stay s = next_apart m ok s _ (stay s) (opens_next m s _ h.0) (on l refl) e in
      let time : 0 ≡ s.time + 1 = ap (λ (t : State). t.time) same in
      omega arith

  -- The choice.

  only_chosen : (t : State) → Next m s t → f t ≡ top → ((u : State) → Follows m s u → f u ≡ top → t.mode ≤ u.mode) → chosen f s (nexts m s) ≡ t
  only_chosen t n e least = chosen_is m ok s in-mode f t n (e ∙ is_top) (λ u k h. least u (next_cases m s u k) (h ∙ sym is_top))

  head_chosen : head m f s top < modes_in m → (s.time + 1 < (mode_of m s).period → f (stay s) ≡ top → head m f s top ≤ s.mode) → chosen f s (nexts m s) ≡ at (head m f s top) 0
  head_chosen l lower = let h = head_attains l in only_chosen (at (head m f s top) 0) (opens_next m s _ h.0) h.1 least
    where
      least : (u : State) → Follows m s u → f u ≡ top → head m f s top ≤ u.mode
      least u (in_stay k e) h = rw e (lower k (rw e at h))
      least u (at_head j o e) h = rw e (head_least j o (rw e at h))

  -- to a lower mode; to a mode, where the stay is over; to a mode, where the stay has less
  pub goes_lower : head m f s top < s.mode → chosen f s (nexts m s) ≡ at (head m f s top) 0
  goes_lower l = head_chosen (omega (arith, in-mode.mode)) (λ k e. omega arith)

  pub goes_ended : (mode_of m s).period ≤ s.time + 1 → chosen f s (nexts m s) ≡ at (head m f s top) 0
  goes_ended l = head_chosen (head_found (λ k e. omega arith)) (λ k e. absurd (omega arith))

  pub goes_better : (f (stay s) ≡ top → ⊥) → chosen f s (nexts m s) ≡ at (head m f s top) 0
  goes_better none = head_chosen (head_found (λ k e. none e)) (λ k e. absurd (none e))

  -- on in the stay, where no lower mode has the top; and where no mode has it
  pub stays_lowest : s.mode < head m f s top → s.time + 1 < (mode_of m s).period → f (stay s) ≡ top → chosen f s (nexts m s) ≡ stay s
  stays_lowest l k e = only_chosen (stay s) (on k refl) e least
    where
      least : (u : State) → Follows m s u → f u ≡ top → s.mode ≤ u.mode
      least u (in_stay i p) h = rw p (omega arith)
      least u (at_head j o p) h = rw p (omega (arith, head_least j o (rw p at h)))

  pub stays_forced : head m f s top ≡ modes_in m → chosen f s (nexts m s) ≡ stay s
  stays_forced e = let h = stay_forced e in stays_lowest (rw e in-mode.mode) h.0 h.1

  -- These are all the cases.
  pub choice : chosen f s (nexts m s) ≡ follow m f s top
  unfolding follow
  choice = pick (stays m s) (eqb (f (stay s)) top) (ltb s.mode (head m f s top)) refl refl refl
    where
      pick : (a b c : Bool) → stays m s ≡ a → eqb (f (stay s)) top ≡ b → ltb s.mode (head m f s top) ≡ c
          → chosen f s (nexts m s) ≡ cond (a && (b && c)) (stay s) (at (head m f s top) 0)
      pick false b c p q r = goes_ended (ltb-false _ _ p)
      pick true false c p q r = goes_better (eqb-false _ _ q)
      pick true true false p q r = goes_lower (omega (arith, ltb-false s.mode (head m f s top) r, head_apart (ltb-true _ _ p)))
      pick true true true p q r = stays_lowest (ltb-true _ _ r) (ltb-true _ _ p) (eqb-true _ _ q)
