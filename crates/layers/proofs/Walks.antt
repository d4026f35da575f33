-- A walk over the positions of one remainder changes these and no others; and one change after another. Assumes nothing.
use mathlib.Core.Path.{◌≡◌, refl, sym, ap, ◌∙◌, subst}
use mathlib.Core.Bool.{Bool, true, false}
use mathlib.Core.List.{List}
use mathlib.Core.Logic.{◌≢◌}
use Prim.Native.Nat.{ℕ, ◌+◌, ◌*◌, ◌/◌, ◌%◌, ◌≤◌, ◌<◌, max}
use native.Mathlib.Nat.{mod-eq_of_lt, add-mod_right, div-add-mod, mul-le-mul_left, add-zero}
use native.Mathlib.Decide.{dec_lt, ℕ_discrete}
use native.Mathlib.Omega.{arith}
use lib.ListN.{length, set, length-set}
use lib.Seq.{get_or-set_same, get_or-set_other}
use native.Mathlib.Numerals.{add-one}
use borrow.Author.Tests.{eq-eqb, ne_eqb, le-leb, lt-leb}
use Rattle.layers.specs.Step.{look, Moved, Changed, offer_of, offer, due_at, offered, gained}
use Rattle.layers.proofs.Sums.{sum_grows}

-- between i and i + t no number has i's remainder
pub skips : (t i d : ℕ) → i < d → d < i + t → d % t ≢ i % t
skips t i d h k e = pick (dec_lt (i / t) (d / t))
  where
    pick : Dec (i / t < d / t) → ⊥
    pick (yes l) = omega (arith, mul-le-mul_left t l, div-add-mod d t, div-add-mod i t)
    pick (no l) = let g : d / t ≤ i / t = omega arith in omega (arith, mul-le-mul_left t g, div-add-mod d t, div-add-mod i t)

-- a walk over the positions that leave r divided by t, each of which R changes, has come to i
pub record Walked (t r : ℕ) (R : ℕ → ℕ → Type 0) (w w' : List ℕ) (i : ℕ) : Type 0 where
  pub here : i % t ≡ r
  pub len : length w' ≡ length w
  pub on : (x : ℕ) → x < length w → x < i → x % t ≡ r → R (look w x) (look w' x)
  pub off : (x : ℕ) → x < length w → x % t ≢ r → look w' x ≡ look w x
  pub ahead : (x : ℕ) → x < length w → i ≤ x → look w' x ≡ look w x

module _ (t r : ℕ) (R : ℕ → ℕ → Type 0) (w : List ℕ) where
  pub walk_start : r < t → Walked t r R w w r
  walk_start h = record { here = mod-eq_of_lt h; len = refl; on = λ x l k e. absurd (no x k e); off = λ x l n. refl; ahead = λ x l k. refl }
    where
      no : (x : ℕ) → x < r → x % t ≡ r → ⊥
      no x k e = let l : x < t = omega arith in omega (arith, mod-eq_of_lt l)

  pub walk_step : (w' : List ℕ) (i v : ℕ) → i < length w → R (look w' i) v → 0 < t → Walked t r R w w' i → Walked t r R w (set w' i v) (i + t)
  walk_step w' i v hi hv ht s = record {
    here = add-mod_right i t ∙ s.here;
    len = length-set w' i v ∙ s.len;
    on = λ x l k e. near x l k e (dec_lt x i) (dec_lt i x);
    off = λ x l n. other x (λ e. n (ap (λ (y : ℕ). y % t) e ∙ s.here)) ∙ s.off x l n;
    ahead = λ x l k. other x (omega arith) ∙ s.ahead x l (omega arith);
  }
    where
      other : (x : ℕ) → x ≢ i → look (set w' i v) x ≡ look w' x
      other x n = get_or-set_other w' i x v 0 n

      now : R (look w i) (look (set w' i v) i)
      now = subst (R (look w i)) (sym (get_or-set_same w' i v 0 (omega (arith, s.len)))) (subst (λ (y : ℕ). R y v) (s.ahead i hi (omega arith)) hv)

      near : (x : ℕ) → x < length w → x < i + t → x % t ≡ r → Dec (x < i) → Dec (i < x) → R (look w x) (look (set w' i v) x)
      near x l k e (yes a) b = subst (R (look w x)) (sym (other x (omega arith))) (s.on x l a e)
      near x l k e (no a) (yes b) = absurd (skips t i x b k (e ∙ sym s.here))
      near x l k e (no a) (no b) = let same : x ≡ i = omega arith in rw same now

  pub walk_end : (w' : List ℕ) (i : ℕ) → length w ≤ i → Walked t r R w w' i → Changed t r R w w'
  walk_end w' i hi s = record { len = s.len; on = λ x l e. s.on x l (omega arith) e; off = s.off }

-- a change, told of each position
pub changed_moved : {t r : ℕ} {R : ℕ → ℕ → Type 0} {w w' : List ℕ} (u : ℕ → ℕ → ℕ) → Changed t r R w w' → ((x v y : ℕ) → x % t ≡ r → R v y → y ≡ u x v) → ((x v : ℕ) → x % t ≢ r → u x v ≡ v) → Moved u w w'
changed_moved {t} {r} {R} {w} {w'} u s on off = record { len = s.len; each = λ x l. pick x l (ℕ_discrete (x % t) r) }
  where
    pick : (x : ℕ) → x < length w → Dec (x % t ≡ r) → look w' x ≡ u x (look w x)
    pick x l (yes e) = on x _ _ e (s.on x l e)
    pick x l (no n) = s.off x l n ∙ sym (off x _ n)

-- One change, none, and one after another.

pub moved_none : (u : ℕ → ℕ → ℕ) (w : List ℕ) → ((d v : ℕ) → u d v ≡ v) → Moved u w w
moved_none u w h = record { len = refl; each = λ d l. sym (h d _) }

pub moved_value : {u : ℕ → ℕ → ℕ} {w w' : List ℕ} → Moved u w w' → (d : ℕ) → d < length w' → look w' d ≡ u d (look w d)
moved_value m d h = m.each d (omega (arith, m.len))

pub moved_more : (u x y : ℕ → ℕ → ℕ) (w w' w'' : List ℕ) → ((d v : ℕ) → x d (u d v) ≡ y d v) → Moved u w w' → Moved x w' w'' → Moved y w w''
moved_more u x y w w' w'' h a b = record { len = b.len ∙ a.len; each = λ d l. b.each d (omega (arith, a.len)) ∙ ap (x d) (a.each d l) ∙ h d _ }

-- One switch, and one task.

module _ (listed : Bool) (q head n : ℕ) where
  pub offer_on : listed ≡ true → (x v : ℕ) → x % q ≡ n % q → max v (offer_of listed q head n x) ≡ max v head
  unfolding offer_of
  offer_on h x v e = rw (h, eq-eqb _ _ e)

  pub offer_off : listed ≡ true → (x v : ℕ) → x % q ≢ n % q → max v (offer_of listed q head n x) ≡ v
  unfolding offer_of
  offer_off h x v e = rw (h, ne_eqb _ _ e) (omega arith)

  pub offer_not : listed ≡ false → (x v : ℕ) → max v (offer_of listed q head n x) ≡ v
  unfolding offer_of
  offer_not h x v = rw h (omega arith)

module _ (tasks : List ℕ) (l n i : ℕ) where
  -- where the task's releases stand
  abbrev Start : ℕ
  Start = (look tasks (4 * i) + (n + 1)) % look tasks (4 * i + 3)

  pub due_on : (x : ℕ) → look tasks (4 * i + 2) ≤ l → x % look tasks (4 * i + 3) ≡ Start → due_at tasks l n x i ≡ look tasks (4 * i + 1)
  unfolding due_at
  due_on x h e = rw (le-leb _ _ h, eq-eqb _ _ e)

  pub due_off : look tasks (4 * i + 2) ≤ l → (x v : ℕ) → x % look tasks (4 * i + 3) ≢ Start → v + due_at tasks l n x i ≡ v
  unfolding due_at
  due_off h x v e = rw (le-leb _ _ h, ne_eqb _ _ e) (add-zero v)

  pub due_late : l < look tasks (4 * i + 2) → (x v : ℕ) → v + due_at tasks l n x i ≡ v
  unfolding due_at
  due_late h x v = rw (lt-leb _ _ h) (add-zero v)

-- The first j switches, and the first j tasks.

module _ (listed : List Bool) (every : List ℕ) (k : ℕ) (heads : List ℕ) (n : ℕ) where
  pub offered_none : (x v : ℕ) → offered listed every k heads n 0 x v ≡ v
  unfolding offered
  offered_none x v = omega arith

  pub offered_more : (j x v : ℕ) → max (offered listed every k heads n j x v) (offer listed every k heads n x j) ≡ offered listed every k heads n (j + 1) x v
  unfolding offered
  offered_more j x v = rw (add-one j) (omega arith)

pub gained_none : (tasks : List ℕ) (l n x v : ℕ) → gained tasks l n 0 x v ≡ v
unfolding gained
gained_none tasks l n x v = add-zero v

pub gained_more : (tasks : List ℕ) (l n j x v : ℕ) → gained tasks l n j x v + due_at tasks l n x j ≡ gained tasks l n (j + 1) x v
unfolding gained
gained_more tasks l n j x v = rw (add-one j) (omega arith)

pub gained_grows : (tasks : List ℕ) (l n x v i j : ℕ) → i ≤ j → gained tasks l n i x v ≤ gained tasks l n j x v
unfolding gained
gained_grows tasks l n x v i j h = omega (arith, sum_grows (due_at tasks l n x) i j h)
