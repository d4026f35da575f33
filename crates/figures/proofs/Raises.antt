-- One raise after another: what is offered by each is offered by both, and nothing else is. Assumes nothing.
use mathlib.Core.Path.{◌≡◌, refl, sym, ◌∙◌, subst}
use mathlib.Core.Logic.{◌⊎◌, inl, inr, ⊎_elim}
use mathlib.Core.List.{List}
use Prim.Native.Nat.{ℕ, ◌+◌, ◌≤◌, ◌<◌, max}
use native.Mathlib.Decide.{dec_lt, dec_le, ℕ_discrete}
use native.Mathlib.Omega.{arith}
use lib.ListN.{length, set, length-set}
use lib.Seq.{get_or-set_same, get_or-set_other}
use Rattle.layers.specs.Step.{look}
use Rattle.figures.specs.Offers.{Raised, Below, Ends, tile_ends, Put, Took}

module _ (P R : ℕ → ℕ → Type 0) (w w' : List ℕ) where
  -- the same is offered
  pub raised_as : ((i v : ℕ) → i < length w → P i v → R i v) → ((i v : ℕ) → i < length w → R i v → P i v) → Raised P w w' → Raised R w w'
  raised_as to back r = record {
    len = r.len;
    keeps = r.keeps;
    offered = λ i v h q. r.offered i v h (back i v h q);
    only = λ i h. ⊎_elim inl (λ p. inr (to i _ h p)) (r.only i h);
  }

  pub raised_more : (Q : ℕ → ℕ → Type 0) (w'' : List ℕ) → ((i v : ℕ) → i < length w → P i v → R i v) → ((i v : ℕ) → i < length w → Q i v → R i v)
      → ((i v : ℕ) → i < length w → R i v → P i v ⊎ Q i v) → Raised P w w' → Raised Q w' w'' → Raised R w w''
  raised_more Q w'' fromP fromQ split a b = record {
    len = b.len ∙ a.len;
    keeps = λ i h. omega (arith, a.keeps i h, b.keeps i (within i h));
    offered = λ i v h q. ⊎_elim (λ p. omega (arith, a.offered i v h p, b.keeps i (within i h))) (λ p. b.offered i v (within i h) p) (split i v h q);
    only = λ i h. ⊎_elim (λ e. ⊎_elim (λ f. inl (e ∙ f)) (λ p. inr (subst (R i) (sym e) (fromP i _ h p))) (a.only i h)) (λ p. inr (fromQ i _ h p)) (b.only i (within i h));
  }
    where
      within : (i : ℕ) → i < length w → i < length w'
      within i h = omega (arith, a.len)

-- one position
pub raised_one : (w : List ℕ) (i n x : ℕ) → i < length w → x ≡ max (look w i) n → Raised (λ j v. (j ≡ i) × (v ≡ n)) w (set w i x)
raised_one w i n x h e = record {
  len = length-set w i x;
  keeps = λ j l. keep j l (ℕ_discrete j i);
  offered = λ j v l p. rw p.0 (omega (arith, p.1, here));
  only = λ j l. change j l (ℕ_discrete j i);
}
  where
    here : look (set w i x) i ≡ x
    here = get_or-set_same w i x 0 h

    keep : (j : ℕ) → j < length w → Dec (j ≡ i) → look w j ≤ look (set w i x) j
    keep j l (yes a) = rw a (omega (arith, here))
    keep j l (no a) = omega (arith, get_or-set_other w i j x 0 a)

    change : (j : ℕ) → j < length w → Dec (j ≡ i) → (look (set w i x) j ≡ look w j) ⊎ ((j ≡ i) × (look (set w i x) j ≡ n))
    change j l (yes a) = rw a (pick (dec_le n (look w i)))
      where
        pick : Dec (n ≤ look w i) → (look (set w i x) i ≡ look w i) ⊎ ((i ≡ i) × (look (set w i x) i ≡ n))
        pick (yes b) = inl (omega (arith, here))
        pick (no b) = inr (refl, omega (arith, here))
    change j l (no a) = inl (get_or-set_other w i j x 0 a)

-- The offers of the numbers below n.

module _ (P : ℕ → ℕ → ℕ → Type 0) (w : List ℕ) where
  -- those from n to n + t, of which only n offers
  pub below_more : (n t : ℕ) (w' w'' : List ℕ) → 0 < t → ((x i v : ℕ) → n < x → x < n + t → i < length w → P x i v → ⊥)
      → Raised (Below P n) w w' → Raised (P n) w' w'' → Raised (Below P (n + t)) w w''
  below_more n t w' w'' pos none = raised_more (Below P n) (Below P (n + t)) w w' (P n) w'' (λ i v h p. (p.0, omega arith, p.2)) (λ i v h p. (n, omega arith, p)) split
    where
      split : (i v : ℕ) → i < length w → Below P (n + t) i v → Below P n i v ⊎ P n i v
      split i v h p = pick (dec_lt p.0 n) (dec_lt n p.0)
        where
          pick : Dec (p.0 < n) → Dec (n < p.0) → Below P n i v ⊎ P n i v
          pick (yes a) b = inl (p.0, a, p.2)
          pick (no a) (yes b) = absurd (none p.0 i v b p.1 h p.2)
          pick (no a) (no b) = let same : p.0 ≡ n = omega arith in inr (subst (λ (x : ℕ). P x i v) same p.2)

-- What ends take of it.

module _ (ends : Ends) where
  -- nothing is offered
  pub took_none : (P : ℕ → ℕ → Type 0) (w : List ℕ) → ((i v : ℕ) → i < ends.width → P i v → ⊥) → Took ends P w w
  took_none P w none = record { len = refl; keeps = λ j h. omega arith; offered = λ j v h p. absurd (none p.0 v p.1 p.3); only = λ j h. inl refl }

  -- the same is offered
  pub took_as : (P R : ℕ → ℕ → Type 0) (w w' : List ℕ) → ((i v : ℕ) → i < ends.width → P i v → R i v) → ((i v : ℕ) → i < ends.width → R i v → P i v)
      → Took ends P w w' → Took ends R w w'
  took_as P R w w' to back = raised_as (Put ends P) (Put ends R) w w' (λ j v h p. (p.0, p.1, p.2, to p.0 v p.1 p.3)) (λ j v h p. (p.0, p.1, p.2, back p.0 v p.1 p.3))

  -- The offers of the numbers below n.

  module _ (P : ℕ → ℕ → ℕ → Type 0) (w : List ℕ) where
    -- a number offers to an end whose number stands at j
    abbrev Some : ℕ → ℕ → ℕ → Type 0
    Some x = Put ends (P x)

    -- first to which end, then which number offers; and the other way round
    ends_first : (n j v : ℕ) → Below Some n j v → Put ends (Below P n) j v
    ends_first n j v p = (p.2.0, p.2.1, p.2.2, (p.0, p.1, p.2.3))

    ends_last : (n j v : ℕ) → Put ends (Below P n) j v → Below Some n j v
    ends_last n j v p = (p.3.0, p.3.1, (p.0, p.1, p.2, p.3.2))

    -- those from n to n + t, of which only n offers
    pub took_more : (n t : ℕ) (w' w'' : List ℕ) → 0 < t → ((x i v : ℕ) → n < x → x < n + t → i < ends.width → P x i v → ⊥)
        → Took ends (Below P n) w w' → Took ends (P n) w' w'' → Took ends (Below P (n + t)) w w''
    took_more n t w' w'' pos none done new =
        raised_as _ _ _ _ (λ j v h. ends_first (n + t) j v) (λ j v h. ends_last (n + t) j v)
        (below_more Some w n t w' w'' pos (λ x j v low high h p. none x p.0 v low high p.1 p.3) (raised_as _ _ _ _ (λ j v h. ends_last n j v) (λ j v h. ends_first n j v) done) new)

    pub took_next : (n : ℕ) (w' w'' : List ℕ) → Took ends (Below P n) w w' → Took ends (P n) w' w'' → Took ends (Below P (n + 1)) w w''
    took_next n w' w'' = took_more n 1 w' w'' (omega arith) (λ x i v h j. absurd (omega arith))

    -- those from n to n + t, of which none offers
    pub took_skip : (n t : ℕ) (w' : List ℕ) → ((x i v : ℕ) → n ≤ x → x < n + t → i < ends.width → P x i v → ⊥) → Took ends (Below P n) w w' → Took ends (Below P (n + t)) w w'
    took_skip n t w' none = took_as (Below P n) (Below P (n + t)) w w' (λ i v h p. (p.0, omega arith, p.2)) (λ i v h p. pick i v h p (dec_lt p.0 n))
      where
        pick : (i v : ℕ) → i < ends.width → (p : Below P (n + t) i v) → Dec (p.0 < n) → Below P n i v
        pick i v h p (yes a) = (p.0, a, p.2)
        pick i v h p (no a) = absurd (none p.0 i v (omega arith) p.1 h p.2)

    pub took_at : (k n : ℕ) (w' : List ℕ) → k ≡ n → Took ends (Below P k) w w' → Took ends (Below P n) w w'
    took_at k n w' e r = subst (λ (x : ℕ). Took ends (Below P x) w w') e r

-- the ends of a tile, whose row is raised position by position
pub took_tile : (lo width : ℕ) (P : ℕ → ℕ → Type 0) (w w' : List ℕ) → length w ≡ width → Took (tile_ends lo width) P w w' → Raised P w w'
took_tile lo width P w w' e =
    raised_as (Put (tile_ends lo width) P) P w w' (λ j v h p. subst (λ (i : ℕ). P i v) p.2 p.3) (λ j v h p. (j, omega (arith, e), refl, p))
