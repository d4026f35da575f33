-- `tape` is the tape of a module that keeps its rules, and `tapes` are those of a well_formed sheet; no other list is. Assumes nothing.
use mathlib.Core.Path.{◌≡◌, refl, sym, ◌∙◌, ap, ap₂, subst}
use mathlib.Core.Logic.{◌⊎◌, inl, inr}
use mathlib.Core.Bool.{Bool, true, false}
use mathlib.Core.List.Memᴰ
use mathlib.Core.List.{List, [], ◌∷◌, Memᴰ}
use Prim.Native.Nat.{ℕ, zero, suc, pred, ◌+◌, ◌≤◌, ◌<◌}
use native.Mathlib.Nat.{le_trans, le_antisymm}
use native.Mathlib.Decide.{dec_lt}
use native.Mathlib.Omega.{arith}
use lib.Dec.{ltb, leb}
use borrow.Author.Tests.{ltb-true, ltb-false, leb-true, leb-false}
use Rattle.model.specs.Lists.{max_of}
use Rattle.model.specs.Sheet.{Module, Sheet}
use Rattle.model.specs.WellFormed.{ModuleRule, WellFormed}
use Rattle.model.specs.Run.{State, first, Inside, Next, Run, later, IsRun, demand}
use Rattle.model.specs.Demand.{Largest, nexts, gain_first, value}
use Rattle.model.specs.Tape.{tape_of, NotAfter, IsTape, AreTapes, among, better, choose, chosen, tape, tapes}
use Rattle.model.proofs.Lists.{largest_unique, le_max_of, max_of_reached, pairwise_map, pairwise_unique}
use Rattle.model.proofs.Runs.{nexts_sound, nexts_complete, some_next, after, after_run, later_run, second_next, period_positive, next_inside, next_apart, some_run}
use Rattle.model.proofs.Demands.{demand_none, demand_step, value_largest}

-- Dictionary order.

not_after_antisym : (xs ys : List ℕ) → NotAfter xs ys → NotAfter ys xs → xs ≡ ys
not_after_antisym [] [] p q = refl
not_after_antisym [] (y ∷ ys) p q = absurd q
not_after_antisym (x ∷ xs) [] p q = absurd p
not_after_antisym (x ∷ xs) (y ∷ ys) (inl h) (inl k) = absurd (omega arith)
not_after_antisym (x ∷ xs) (y ∷ ys) (inl h) (inr k) = absurd (omega arith)
not_after_antisym (x ∷ xs) (y ∷ ys) (inr h) (inl k) = absurd (omega arith)
not_after_antisym (x ∷ xs) (y ∷ ys) (inr h) (inr k) = ap₂ ◌∷◌ h.0 (not_after_antisym xs ys h.1 k.1)

not_after_first : (m : Module) (a b : ℕ) (s : State) (ρ : Run) → s.mode < (ρ 0).mode → NotAfter (tape m a b s) (tape_of ρ b)
unfolding tape
not_after_first m a zero s ρ h = tt
not_after_first m a (suc b) s ρ h = inl h

-- The chosen state.

-- x has at least the value of y, and of two alike the smaller mode
abbrev pub Beats : (State → ℕ) → State → State → Type 0
Beats f x y = (f y ≤ f x) × (f y ≡ f x → x.mode ≤ y.mode)

beats_trans : (f : State → ℕ) (x y z : State) → Beats f x y → Beats f y z → Beats f x z
beats_trans f x y z p q = (omega arith, λ e. le_trans (p.1 (omega arith)) (q.1 (omega arith)))

-- z is one of the two, and beats both
abbrev BestOf : (State → ℕ) → State → State → State → Type 0
BestOf f x y z = ((z ≡ x) × Beats f x y) ⊎ ((z ≡ y) × Beats f y x)

better_best : (f : State → ℕ) (x y : State) → BestOf f x y (better f x y)
better_best f x y = pick (ltb (f y) (f x)) (ltb (f x) (f y)) (leb x.mode y.mode) refl refl refl
  where
    pick : (p q r : Bool) → ltb (f y) (f x) ≡ p → ltb (f x) (f y) ≡ q → leb x.mode y.mode ≡ r → BestOf f x y (among p q r x y)
    pick true q r hp hq hr = inl (refl, omega (arith, ltb-true, ltb-false))
    pick false true r hp hq hr = inr (refl, omega (arith, ltb-true, ltb-false))
    pick false false true hp hq hr = inl (refl, omega (arith, ltb-false, leb-true))
    pick false false false hp hq hr = inr (refl, omega (arith, ltb-false, leb-false))

choose_in : (f : State → ℕ) (x : State) (l : List State) → Memᴰ (choose f x l) (x ∷ l)
choose_in f x [] = Memᴰ.head refl
choose_in f x (y ∷ l) = pick (choose f y l) (better_best f x (choose f y l)) (choose_in f y l)
  where
    pick : (c : State) → BestOf f x c (better f x c) → Memᴰ c (y ∷ l) → Memᴰ (better f x c) (x ∷ (y ∷ l))
    pick c (inl h) below = Memᴰ.head h.0
    pick c (inr h) below = rw h.0 (Memᴰ.tail below)

choose_best : (f : State → ℕ) (x : State) (l : List State) (z : State) → Memᴰ z (x ∷ l) → Beats f (choose f x l) z
choose_best f x [] z (Memᴰ.head e) = rw e (omega arith)
choose_best f x [] z (Memᴰ.tail k) = absurd (Memᴰ.not-nil k)
choose_best f x (y ∷ l) z k = pick (choose f y l) (better_best f x (choose f y l)) (choose_best f y l z) k
  where
    pick : (c : State) → BestOf f x c (better f x c) → (Memᴰ z (y ∷ l) → Beats f c z) → Memᴰ z (x ∷ (y ∷ l)) → Beats f (better f x c) z
    pick c (inl h) below (Memᴰ.head e) = rw (h.0, e) (omega arith)
    pick c (inr h) below (Memᴰ.head e) = rw (h.0, e) h.1
    pick c (inl h) below (Memᴰ.tail j) = rw h.0 (beats_trans f x c z h.1 (below j))
    pick c (inr h) below (Memᴰ.tail j) = rw h.0 (below j)

-- where the list has a state, the chosen one is of the list and beats each of it
pub chosen_in : (f : State → ℕ) (d z : State) (l : List State) → Memᴰ z l → Memᴰ (chosen f d l) l
chosen_in f d z [] h = absurd (Memᴰ.not-nil h)
chosen_in f d z (x ∷ l) h = choose_in f x l

pub chosen_best : (f : State → ℕ) (d z : State) (l : List State) → Memᴰ z l → Beats f (chosen f d l) z
chosen_best f d z [] h = absurd (Memᴰ.not-nil h)
chosen_best f d z (x ∷ l) h = choose_best f x l z h

pub chosen_max : (f : State → ℕ) (d z : State) (l : List State) → Memᴰ z l → f (chosen f d l) ≡ max_of f l
chosen_max f d z l h =
    let y = max_of_reached f z l h in
    le_antisymm (le_max_of f (chosen f d l) l (chosen_in f d z l h)) (rw (← y.2) (chosen_best f d y.0 l y.1).0)

-- The tape.

pub tape_unique : (m : Module) (s : State) (a b : ℕ) (t u : List ℕ) → IsTape m s a b t → IsTape m s a b u → t ≡ u
tape_unique m s a b t u p q =
    let same : demand m p.run a b ≡ demand m q.run a b = largest_unique _ (demand m p.run a b) (demand m q.run a b) p.reaches q.reaches in
    not_after_antisym t u (rw q.written at (p.least q.run q.is_run (sym same))) (rw p.written at (q.least p.run p.is_run same))

module _ (m : Module) (ok : ModuleRule m) where
  tape_demand : (b a : ℕ) (s : State) → Inside m s → (t : List ℕ) (p : IsTape m s a b t) → demand m p.run a b ≡ value m a b s
  tape_demand b a s h t p = largest_unique _ (demand m p.run a b) (value m a b s) p.reaches (value_largest m ok b a s h)

  -- s, and then the tape from a next state that beats each other
  tape_step : (a b : ℕ) (s p : State) → Inside m s → Next m s p → ((t : State) → Next m s t → Beats (value m (pred a) b) p t)
      → value m a (suc b) s ≡ gain_first m a (suc b) s + value m (pred a) b p → IsTape m p (pred a) b (tape m (pred a) b p) → IsTape m s a (suc b) (s.mode ∷ tape m (pred a) b p)
  tape_step a b s p h next best top r =
      record {
        run = after s r.run;
        is_run = after_run m s p r.run next r.is_run;
        reaches = subst (Largest m s (λ ρ. demand m ρ a (suc b))) (sym whole) (value_largest m ok (suc b) a s h);
        written = ap (λ (t : List ℕ). s.mode ∷ t) r.written;
        least = λ ρ k e. inr (sym (ap (λ (t : State). t.mode) k.starts), rest ρ k (e ∙ whole));
      }
    where
      whole : demand m (after s r.run) a (suc b) ≡ value m a (suc b) s
      whole = omega (arith, demand_step m (after s r.run) a b, tape_demand b (pred a) p (next_inside m ok s p next) _ r)

      rest : (ρ : Run) → IsRun m s ρ → demand m ρ a (suc b) ≡ value m a (suc b) s → NotAfter (tape m (pred a) b p) (tape_of (later ρ) b)
      rest ρ k e = pick (dec_lt p.mode (ρ 1).mode)
        where
          n : Next m s (ρ 1)
          n = second_next m s ρ k

          up : demand m (later ρ) (pred a) b ≤ value m (pred a) b (ρ 1)
          up = (value_largest m ok b (pred a) (ρ 1) (next_inside m ok s (ρ 1) n)).1 _ (later ρ, later_run m s ρ k, refl)

          same : gain_first m a (suc b) (ρ 0) ≡ gain_first m a (suc b) s
          same = ap (gain_first m a (suc b)) k.starts

          full : demand m (later ρ) (pred a) b ≡ value m (pred a) b p
          full = omega (arith, up, (best (ρ 1) n).0, same, demand_step m ρ a b, e, top)

          pick : Dec (p.mode < (ρ 1).mode) → NotAfter (tape m (pred a) b p) (tape_of (later ρ) b)
          pick (yes l) = not_after_first m (pred a) b p (later ρ) l
          pick (no l) =
              let q : p ≡ ρ 1 = next_apart m ok s p (ρ 1) next n (omega (arith, (best (ρ 1) n).1 (omega (arith, up, (best (ρ 1) n).0, full)))) in
              r.least (later ρ) (record { starts = sym q; steps = λ t. k.steps (suc t) }) (full ∙ sym (tape_demand b (pred a) p (next_inside m ok s p next) _ r))

  pub tape_is : (b a : ℕ) (s : State) → Inside m s → IsTape m s a b (tape m a b s)
  unfolding tape value
  tape_is zero a s h =
      let r = some_run m ok s h in
      record {
        run = r.0;
        is_run = r.1;
        reaches = subst (Largest m s (λ ρ. demand m ρ a 0)) (sym (demand_none m r.0 a)) (value_largest m ok 0 a s h);
        written = refl;
        least = λ ρ k e. tt;
      }
  tape_is (suc b) a s h =
      let t = some_next m s h in
      let some = nexts_complete m s t.0 t.1 in
      let val = value m (pred a) b in
      let p = chosen val s (nexts m s) in
      let next = nexts_sound m s p (chosen_in val s t.0 (nexts m s) some) in
      tape_step a b s p h next (λ u k. chosen_best val s u (nexts m s) (nexts_complete m s u k)) (ap (λ (n : ℕ). gain_first m a (suc b) s + n) (sym (chosen_max val s t.0 (nexts m s) some)))
      (tape_is b (pred a) p (next_inside m ok s p next))

pub tapes_are : (s : Sheet) → WellFormed s → (a b : ℕ) → AreTapes s a b (tapes s a b)
unfolding tapes
tapes_are s ok a b =
    pairwise_map ModuleRule (λ (m : Module) (t : List ℕ). IsTape m first a b t) (λ m. tape m a b first) (λ m r. tape_is m r b a first (period_positive m r 0)) s.modules ok.modules

pub tapes_unique : (s : Sheet) (a b : ℕ) (ts us : List (List ℕ)) → AreTapes s a b ts → AreTapes s a b us → ts ≡ us
tapes_unique s a b = pairwise_unique (λ (m : Module) (t : List ℕ). IsTape m first a b t) (λ m. tape_unique m first a b) s.modules
