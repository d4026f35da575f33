-- `reached` computes which modes are reached: each round reaches a mode more until one reaches nothing else, so that as many rounds as there are
-- modes are enough. Assumes nothing.
use mathlib.Core.Path.{◌≡◌, refl, sym, ap, ◌∙◌}
use mathlib.Core.Logic.{◌⊎◌, inl, inr}
use mathlib.Core.Bool.{Bool, true, false, ◌&&◌, and-eq-true_iff, false≢true}
use mathlib.Core.List.Memᴰ
use mathlib.Core.List.{List, [], ◌∷◌, Memᴰ}
use Prim.Native.Nat.{ℕ, zero, suc, ◌+◌, ◌≤◌, ◌<◌}
use native.Mathlib.Decide.{dec_lt, dec_le}
use native.Mathlib.Omega.{arith}
use lib.Dec.{eqb}
use lib.ListN.{length, get_or-eq_default}
use borrow.Author.Tests.{eq-eqb, eqb-true}
use Rattle.model.specs.Lists.{when, any_below}
use Rattle.model.specs.Sheet.{Switch, Module, named}
use Rattle.model.specs.Run.{idle, mode_at, Reached, mode_0, target_of}
use Rattle.model.specs.Demand.{reached_in, reached}
use Rattle.model.proofs.Lists.{or_either, or_left, or_right, any_below_some, some_any_below}

-- Some switch.

-- a target that is named has a switch in the list ..
pub named_switch : (t : ℕ) (ws : List Switch) → named t ws ≡ true → (w : Switch) × Memᴰ w ws × (w.target ≡ t)
named_switch t [] h = absurd (false≢true h)
named_switch t (w ∷ ws) h = pick (or_either (eqb t w.target) (named t ws) h) (named_switch t ws)
  where
    pick : (eqb t w.target ≡ true) ⊎ (named t ws ≡ true) → (named t ws ≡ true → (v : Switch) × Memᴰ v ws × (v.target ≡ t)) → (v : Switch) × Memᴰ v (w ∷ ws) × (v.target ≡ t)
    pick (inl e) below = (w, Memᴰ.head refl, sym (eqb-true _ _ e))
    pick (inr e) below = let r = below e in (r.0, Memᴰ.tail r.1, r.2)

-- .. and a switch of the list is named
pub switch_named : (w : Switch) (ws : List Switch) → Memᴰ w ws → named w.target ws ≡ true
switch_named w [] h = absurd (Memᴰ.not-nil h)
switch_named w (v ∷ ws) (Memᴰ.head e) = or_left _ _ (eq-eqb _ _ (ap (λ (u : Switch). u.target) e))
switch_named w (v ∷ ws) (Memᴰ.tail h) = or_right (eqb w.target v.target) _ (switch_named w ws h)

-- How many numbers below n q holds of.

count : (ℕ → Bool) → ℕ → ℕ
count q zero = 0
count q (suc n) = when (q n) 1 + count q n

count_most : (q : ℕ → Bool) (n : ℕ) → count q n ≤ n
unfolding count
count_most q zero = omega arith
count_most q (suc n) = pick (q n) (count_most q n)
  where
    pick : (b : Bool) → count q n ≤ n → when b 1 + count q n ≤ suc n
    pick true h = omega arith
    pick false h = omega arith

count_some : (q : ℕ → Bool) (n j : ℕ) → j < n → q j ≡ true → 1 ≤ count q n
unfolding count
count_some q zero j h e = absurd (omega arith)
count_some q (suc n) j h e = pick (dec_lt j n) (λ l. count_some q n j l e)
  where
    pick : Dec (j < n) → (j < n → 1 ≤ count q n) → 1 ≤ when (q n) 1 + count q n
    pick (yes l) below = omega (arith, below l)
    pick (no l) below = let last : n ≡ j = omega arith in let one : q n ≡ true = rw last e in rw one (omega arith)

-- below n, p holds of all that q holds of
abbrev Covers : ℕ → (ℕ → Bool) → (ℕ → Bool) → Type 0
Covers n p q = (k : ℕ) → k < n → q k ≡ true → p k ≡ true

-- it then holds of more, or of nothing else
record Counted (n : ℕ) (p q : ℕ → Bool) : Type 0 where
  most : count q n ≤ count p n
  more : (count q n < count p n) ⊎ Covers n q p

covers_last : (n : ℕ) (p q : ℕ → Bool) → (p n ≡ true → q n ≡ true) → Covers n q p → Covers (suc n) q p
covers_last n p q last h k l e = pick (dec_lt k n)
  where
    pick : Dec (k < n) → q k ≡ true
    pick (yes i) = h k i e
    pick (no i) = let same : n ≡ k = omega arith in rw same at (last (rw same e))

count_one : (q : ℕ → Bool) (n : ℕ) → q n ≡ true → count q (suc n) ≡ suc (count q n)
unfolding count
count_one q n e = rw e (omega arith)

count_none : (q : ℕ → Bool) (n : ℕ) → q n ≡ false → count q (suc n) ≡ count q n
unfolding count
count_none q n e = rw e (omega arith)

counted : (n : ℕ) (p q : ℕ → Bool) → Covers n p q → Counted n p q
unfolding count
counted zero p q h = record { most = omega arith; more = inr (λ k l. absurd (omega arith)) }
counted (suc n) p q h = pick (p n) (q n) refl refl (counted n p q (λ k l. h k (omega arith)))
  where
    same : (c : ℕ) → count p (suc n) ≡ c + count p n → count q (suc n) ≡ c + count q n → (p n ≡ true → q n ≡ true) → Counted n p q → Counted (suc n) p q
    same c e f last r = record { most = omega (arith, r.most); more = go r.more }
      where
        go : (count q n < count p n) ⊎ Covers n q p → (count q (suc n) < count p (suc n)) ⊎ Covers (suc n) q p
        go (inl l) = inl (omega arith)
        go (inr k) = inr (covers_last n p q last k)

    pick : (a b : Bool) → p n ≡ a → q n ≡ b → Counted n p q → Counted (suc n) p q
    pick true true e f r = same 1 (omega (arith, count_one p n e)) (omega (arith, count_one q n f)) (λ x. f) r
    pick true false e f r = record { most = omega (arith, r.most, count_one p n e, count_none q n f); more = inl (omega (arith, r.most, count_one p n e, count_none q n f)) }
    pick false true e f r = absurd (false≢true (sym e ∙ h n (omega arith) f))
    pick false false e f r = same 0 (omega (arith, count_none p n e)) (omega (arith, count_none q n f)) (λ x. absurd (false≢true (sym e ∙ x))) r

-- The rounds.

module _ (m : Module) where
  abbrev size : ℕ
  size = length m.modes

  -- what a mode lists that a round has reached is reached in the next one
  round_more : (n j : ℕ) (w : Switch) → Memᴰ w (mode_at m j).switches → reached_in m n j ≡ true → reached_in m (suc n) w.target ≡ true
  unfolding reached_in
  round_more n j w i h = or_right (reached_in m n w.target) _ (some_any_below _ size j (listing (dec_lt j size)) (rw (h, switch_named w (mode_at m j).switches i)))
    where
      -- a number that no mode has lists nothing
      listing : Dec (j < size) → j < size
      listing (yes l) = l
      listing (no l) = let none : Memᴰ w [] = rw (get_or-eq_default m.modes idle {n = j} (omega arith)) at i in absurd (Memᴰ.not-nil none)

  round_keeps : (n k : ℕ) → reached_in m n k ≡ true → reached_in m (suc n) k ≡ true
  unfolding reached_in
  round_keeps n k h = or_left (reached_in m n k) _ h

  -- a mode that n rounds have reached lists the mode k
  record From (n k : ℕ) : Type 0 where
    by : ℕ
    switch : Switch
    inside : by < size
    before : reached_in m n by ≡ true
    lists : Memᴰ switch (mode_at m by).switches
    to : switch.target ≡ k

  -- how one round more reaches the mode k: it was reached before, or so
  round_from : (n k : ℕ) → reached_in m (suc n) k ≡ true → (reached_in m n k ≡ true) ⊎ From n k
  unfolding reached_in
  round_from n k h = pick (or_either (reached_in m n k) _ h)
    where
      pick : (reached_in m n k ≡ true) ⊎ (any_below (λ j. reached_in m n j && named k (mode_at m j).switches) size ≡ true) → (reached_in m n k ≡ true) ⊎ From n k
      pick (inl e) = inl e
      pick (inr e) =
          let r = any_below_some _ size e in
          let both = simp and-eq-true_iff at r.2 in
          let w = named_switch k (mode_at m r.0).switches both.1 in
          inr (record { by = r.0; switch = w.0; inside = r.1; before = both.0; lists = w.1; to = w.2 })

  -- mode 0 is reached in every round
  round_0 : (n : ℕ) → reached_in m n 0 ≡ true
  unfolding reached_in
  round_0 zero = refl
  round_0 (suc n) = round_keeps n 0 (round_0 n)

  -- The last round.

  -- the round n + 1 reaches nothing else
  abbrev Stable : ℕ → Type 0
  Stable n = (k : ℕ) → reached_in m (suc n) k ≡ true → reached_in m n k ≡ true

  -- where it reaches no other mode of the module, the next one reaches nothing else
  stable_next : (n : ℕ) → Covers size (reached_in m n) (reached_in m (suc n)) → Stable (suc n)
  stable_next n h k e = pick (round_from (suc n) k e)
    where
      pick : (reached_in m (suc n) k ≡ true) ⊎ From (suc n) k → reached_in m (suc n) k ≡ true
      pick (inl d) = d
      pick (inr r) = rw r.to at (round_more n r.by r.switch r.lists (h r.by r.inside r.before))

  -- each round reaches a mode more, until one reaches nothing else
  rounds : 1 ≤ size → (n : ℕ) → (n < count (reached_in m n) size) ⊎ Stable n
  rounds h zero = inl (count_some (reached_in m 0) size 0 h (round_0 0))
  rounds h (suc n) = pick (rounds h n) (counted size (reached_in m (suc n)) (reached_in m n) (λ k l. round_keeps n k)).more
    where
      pick : (n < count (reached_in m n) size) ⊎ Stable n → (count (reached_in m n) size < count (reached_in m (suc n)) size) ⊎ Covers size (reached_in m n) (reached_in m (suc n)) → (suc n < count (reached_in m (suc n)) size) ⊎ Stable (suc n)
      pick (inl a) (inl b) = inl (omega arith)
      pick (inl a) (inr c) = inr (stable_next n c)
      pick (inr a) b = inr (stable_next n (λ k l. a k))

  last_round : Stable size
  last_round = pick (dec_le 1 size)
    where
      none : ¬ (1 ≤ size) → (k : ℕ) → (reached_in m size k ≡ true) ⊎ From size k → reached_in m size k ≡ true
      none h k (inl e) = e
      none h k (inr r) = absurd (omega (arith, r.inside))

      done : (size < count (reached_in m size) size) ⊎ Stable size → Stable size
      done (inl l) = absurd (omega (arith, count_most (reached_in m size) size))
      done (inr h) = h

      pick : Dec (1 ≤ size) → Stable size
      pick (yes h) = done (rounds h size)
      pick (no h) = λ k e. none h k (round_from size k e)

  -- The two are the same.

  pub reached_true : (k : ℕ) → Reached m k → reached m k ≡ true
  unfolding reached
  reached_true k mode_0 = round_0 size
  reached_true k (target_of j w r i) = last_round w.target (round_more size j w i (reached_true j r))

  round_reached : (n k : ℕ) → reached_in m n k ≡ true → Reached m k
  unfolding reached_in
  round_reached zero k h = let z : k ≡ 0 = eqb-true k 0 h in rw z mode_0
  round_reached (suc n) k h = pick (round_from n k h) (round_reached n)
    where
      pick : (reached_in m n k ≡ true) ⊎ From n k → ((j : ℕ) → reached_in m n j ≡ true → Reached m j) → Reached m k
      pick (inl e) before = before k e
      pick (inr r) before = rw r.to at (target_of r.by r.switch (before r.by r.before) r.lists)

  pub true_reached : (k : ℕ) → reached m k ≡ true → Reached m k
  unfolding reached
  true_reached = round_reached size
