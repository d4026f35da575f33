-- For all runs and works there is an order that is earliest deadline first: each tick goes to one with the earliest due tick of the instances released so far
-- that have work left. Assumes nothing.
use mathlib.Core.Path.{◌≡◌, refl, ap, subst}
use mathlib.Core.Bool.{Bool, true, false}
use mathlib.Core.List.Memᴰ
use mathlib.Core.List.{List, [], ◌∷◌, Memᴰ}
use Prim.Native.Nat.{ℕ, zero, suc, ◌+◌, ◌≤◌, zero-le}
use native.Mathlib.Nat.{le_refl}
use native.Mathlib.Omega.{arith}
use lib.Dec.{leb, ltb}
use borrow.Author.Tests.{leb-true, leb-false, ltb-true, lt-ltb}
use Rattle.model.specs.Sheet.{Sheet}
use Rattle.edf.specs.Work.{Runs, Instance, Work, Slot, unused, given, hit, done, Pending, EarliestDeadlineFirst}
use Rattle.edf.proofs.Listing.{listed, in_listed, listed_in}

-- One of a list that is due first.

abbrev pick : Bool → Instance → Instance → Slot
pick true x y = given x
pick false x y = given y

abbrev sooner : Instance → Slot → Slot
sooner x unused = given x
sooner x (given y) = pick (leb x.due y.due) x y

first_due : List Instance → Slot
first_due [] = unused
first_due (x ∷ xs) = sooner x (first_due xs)

-- the slot is unused only where the list is empty, and goes otherwise to one of it that is due first
abbrev First : List Instance → Slot → Type 0
First xs unused = (x : Instance) → Memᴰ x xs → ⊥
First xs (given y) = Memᴰ y xs × ((x : Instance) → Memᴰ x xs → y.due ≤ x.due)

-- what holds of one more instance, and of the list
grow : (P : Instance → Type 0) (x : Instance) (xs : List Instance) → P x → ((y : Instance) → Memᴰ y xs → P y) → (y : Instance) → Memᴰ y (x ∷ xs) → P y
grow P x xs p f y (Memᴰ.head e) = rw e p
grow P x xs p f y (Memᴰ.tail m) = f y m

pick_first : (x y : Instance) (xs : List Instance) → First xs (given y) → (b : Bool) → leb x.due y.due ≡ b → First (x ∷ xs) (pick b x y)
pick_first x y xs h true e = (Memᴰ.head refl, grow (λ z. x.due ≤ z.due) x xs (le_refl x.due) (λ z m. omega (arith, h.1 z m, leb-true x.due y.due e)))
pick_first x y xs h false e = (Memᴰ.tail h.0, grow (λ z. y.due ≤ z.due) x xs (omega (arith, leb-false x.due y.due e)) h.1)

sooner_first : (x : Instance) (xs : List Instance) (p : Slot) → First xs p → First (x ∷ xs) (sooner x p)
sooner_first x xs unused h = (Memᴰ.head refl, grow (λ z. x.due ≤ z.due) x xs (le_refl x.due) (λ z m. absurd (h z m)))
sooner_first x xs (given y) h = pick_first x y xs h (leb x.due y.due) refl

first_due_first : (xs : List Instance) → First xs (first_due xs)
unfolding first_due
first_due_first [] = λ x m. Memᴰ.not-nil m
first_due_first (x ∷ xs) = sooner_first x xs (first_due xs) (first_due_first xs)

-- The order, with the ticks that each instance was given before t.

module _ (s : Sheet) (ρs : Runs) (w : Work) where
  -- released at or before t, with less than its work done, where d is what is done
  waiting : (Instance → ℕ) → ℕ → List Instance
  waiting d t = listed (λ x. ltb (d x) (w x)) s ρs 0 (suc t)

  counted : ℕ → Instance → ℕ
  counted zero x = 0
  counted (suc t) x = counted t x + hit (first_due (waiting (counted t) t)) x

  built : ℕ → Slot
  built t = first_due (waiting (counted t) t)

  done_counted : (x : Instance) (t : ℕ) → done built x t ≡ counted t x
  unfolding done counted built
  done_counted x zero = refl
  done_counted x (suc t) = ap (λ (n : ℕ). n + hit (built t) x) (done_counted x t)

  in_waiting : (t : ℕ) (x : Instance) → Memᴰ x (waiting (counted t) t) → Pending s ρs w built t x
  unfolding waiting
  in_waiting t x m =
      let h = in_listed (λ y. ltb (counted t y) (w y)) s ρs 0 (suc t) x m in
      record { is_instance = h.is_instance; released = omega (arith, h.before); left = rw done_counted (ltb-true (counted t x) (w x) h.kept) }

  waiting_in : (t : ℕ) (x : Instance) → Pending s ρs w built t x → Memᴰ x (waiting (counted t) t)
  unfolding waiting
  waiting_in t x p =
      listed_in (λ y. ltb (counted t y) (w y)) s ρs 0 (suc t) x
      (record { is_instance = p.is_instance; from = zero-le; before = omega (arith, p.released); kept = lt-ltb (counted t x) (w x) (rw done_counted at p.left) })

  chosen : (t : ℕ) (p : Slot) → built t ≡ p → First (waiting (counted t) t) p
  unfolding built
  chosen t p e = subst (First (waiting (counted t) t)) e (first_due_first (waiting (counted t) t))

  pub order_built : (σ : ℕ → Slot) × EarliestDeadlineFirst s ρs w σ
  order_built = (
    built,
    record {
      order = λ t x e. in_waiting t x (chosen t (given x) e).0;
      idle = λ t x e p. chosen t unused e x (waiting_in t x p);
      earliest = λ t x y e p. (chosen t (given x) e).1 y (waiting_in t y p);
    },
  )
