-- Where no interval up to D asks for more than it has, an order that is earliest deadline first ends each instance that is due at D on time. Assumes nothing.
use mathlib.Core.Path.{◌≡◌, refl, subst}
use mathlib.Core.Logic.{◌⊎◌, inl, inr}
use mathlib.Core.List.{List}
use Prim.Native.Nat.{ℕ, zero, suc, ◌+◌, ◌-◌, ◌≤◌, ◌<◌, zero-le}
use native.Mathlib.Nat.{le_refl, le_trans}
use native.Mathlib.Decide.{le_ind, dec_le, dec_lt}
use native.Mathlib.Omega.{arith}
use Rattle.model.specs.Lists.{sum_of}
use Rattle.model.specs.Sheet.{Sheet}
use Rattle.model.specs.WellFormed.{WellFormed}
use Rattle.model.proofs.Lists.{sum_of_zero}
use Rattle.edf.specs.Work.{Runs, Instance, IsInstance, Work, AreWorks, full_cost, Slot, unused, given, done, Pending, EarliestDeadlineFirst}
use Rattle.edf.proofs.Joined.{sum_of_le, sum_of_lt}
use Rattle.edf.proofs.Listing.{inside, in_inside, inside_in}
use Rattle.edf.proofs.Done.{done_suc, done_grows, done_given, released_before_due}

module _ (s : Sheet) (ok : WellFormed s) (ρs : Runs) (w : Work) (σ : ℕ → Slot) (edf : EarliestDeadlineFirst s ρs w σ) (D : ℕ) where
  -- the tick is given to an instance that is due by D
  Busy : ℕ → Type 0
  Busy t = (x : Instance) × (σ t ≡ given x) × (x.due ≤ D)

  -- no instance that is due by D is released and has work left
  Free : ℕ → Type 0
  Free t = (x : Instance) → Pending s ρs w σ t x → x.due ≤ D → ⊥

  -- an instance that is due by D and has work left at a or later was released at a or later
  Fresh : ℕ → Type 0
  Fresh a = (x : Instance) (t : ℕ) → a ≤ t → Pending s ρs w σ t x → x.due ≤ D → a ≤ x.release

  busy_or_free : (t : ℕ) → Busy t ⊎ Free t
  unfolding Busy Free
  busy_or_free t = slot (σ t) refl
    where
      by_due : (x : Instance) → σ t ≡ given x → Dec (x.due ≤ D) → Busy t ⊎ Free t
      by_due x e (yes l) = inl (x, e, l)
      by_due x e (no n) = inr (λ y p l. n (le_trans (edf.earliest t x y e p) l))

      slot : (p : Slot) → σ t ≡ p → Busy t ⊎ Free t
      slot unused e = inr (λ x p l. edf.idle t x e p)
      slot (given x) e = by_due x e (dec_le x.due D)

  fresh_after : (t : ℕ) → Free t → Fresh (suc t)
  unfolding Free Fresh
  fresh_after t free x u l p k = pick (dec_le (suc t) x.release)
    where
      pick : Dec (suc t ≤ x.release) → suc t ≤ x.release
      pick (yes r) = r
      pick (no n) = absurd (free x (record { is_instance = p.is_instance; released = omega arith; left = omega (arith, p.left, done_grows σ x t u (omega arith)) }) k)

  -- a start from which on every tick before t is busy
  record Start (t : ℕ) : Type 0 where
    a : ℕ
    low : a ≤ t
    fresh : Fresh a
    busy : (u : ℕ) → a ≤ u → u < t → Busy u

  start : (t : ℕ) → Start t
  unfolding Fresh
  start zero = record { a = 0; low = zero-le; fresh = λ x u l p k. zero-le; busy = λ u l k. absurd (omega arith) }
  start (suc t) = pick (busy_or_free t) (start t)
    where
      more : Busy t → (r : Start t) (u : ℕ) → r.a ≤ u → u < suc t → Dec (u < t) → Busy u
      more now r u l k (yes m) = r.busy u l m
      more now r u l k (no n) = subst Busy (omega arith) now

      pick : Busy t ⊎ Free t → Start t → Start (suc t)
      pick (inl now) r = record { a = r.a; low = omega (arith, r.low); fresh = r.fresh; busy = λ u l k. more now r u l k (dec_lt u t) }
      pick (inr free) r = record { a = suc t; low = le_refl (suc t); fresh = fresh_after t free; busy = λ u l k. absurd (omega arith) }

  module _ (r : Start D) where
    -- the work left at tick t of the instances inside the interval
    left : ℕ → ℕ
    left t = sum_of (λ x. w x - done σ x t) (inside s ρs r.a D)

    -- each tick of the interval takes from it
    left_step : (t : ℕ) → r.a ≤ t → t < D → left (suc t) < left t
    unfolding Busy Fresh left
    left_step t l k =
        let (x, e, m) = r.busy t l k in
        let p = edf.order t x e in
        sum_of_lt (λ y. w y - done σ y (suc t)) (λ y. w y - done σ y t) (inside s ρs r.a D) (λ y i. omega (arith, done_suc σ y t)) x
        (inside_in s ρs r.a D x p.is_instance (r.fresh x t l p m) (released_before_due s ok ρs x p.is_instance) m)
        (omega (arith, done_given σ x t e, p.left))

    left_end : left D + D ≤ left r.a + r.a
    left_end = le_ind (λ t. t ≤ D → left t + t ≤ left r.a + r.a) (λ _. le_refl (left r.a + r.a)) (λ t l ih k. omega (arith, ih (omega arith), left_step t l k)) D r.low (le_refl D)

  pub all_in_time : AreWorks s ρs w → ((a : ℕ) → a < D → sum_of full_cost (inside s ρs a D) ≤ D - a) → (x : Instance) → IsInstance s ρs x → x.due ≡ D → w x ≤ done σ x D
  unfolding Fresh left
  all_in_time works fits x is e = pick (dec_le (w x) (done σ x D))
    where
      pick : Dec (w x ≤ done σ x D) → w x ≤ done σ x D
      pick (yes l) = l
      pick (no n) = absurd (omega (arith, low, fits a low, at_start, left_end r, at_end, sum_of_zero xs))
        where
          r : Start D
          r = start D

          a : ℕ
          a = r.a

          xs : List Instance
          xs = inside s ρs a D

          proper : x.release < x.due
          proper = released_before_due s ok ρs x is

          from : a ≤ x.release
          from = r.fresh x D r.low (record { is_instance = is; released = omega (arith, proper); left = omega arith }) (omega arith)

          low : a < D
          low = omega (arith, from, proper)

          at_start : left r a ≤ sum_of full_cost xs
          at_start = sum_of_le (λ y. w y - done σ y a) full_cost xs (λ y i. omega (arith, works y (in_inside s ρs a D y i).0))

          at_end : sum_of (λ y. 0) xs < left r D
          at_end = sum_of_lt (λ y. 0) (λ y. w y - done σ y D) xs (λ y i. zero-le) x (inside_in s ρs a D x is from proper (omega arith)) (omega arith)
