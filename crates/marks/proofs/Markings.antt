-- Marks put together: one mark, one step after another, the strides of a switch, the modes at a tick. Assumes nothing.
use mathlib.Core.Path.{◌≡◌, refl, sym, ap, ◌∙◌}
use mathlib.Core.Bool.{Bool, true, false, true≢false}
use mathlib.Core.List.{List}
use mathlib.Core.Logic.{◌⊎◌, inl, inr, ⊎_elim, ◌≢◌}
use Prim.Native.Nat.{ℕ, suc, ◌+◌, ◌-◌, ◌*◌, ◌/◌, ◌%◌, ◌^◌, ◌≤◌, ◌<◌, min, max}
use native.Mathlib.Decide.{dec_lt, ℕ_discrete as dec_eq}
use native.Mathlib.Nat.{one-le-mul, suc-mul, le-div_iff_mul-le, mul-le-mul_right, div-mul-le_self}
use native.Mathlib.Omega.{arith}
use lib.Dec.{eqb}
use lib.ListN.{length, get_or, set, length-set}
use lib.Seq.{get_or-set_same, get_or-set_other}
use lib.Bits.{bit_or}
use borrow.Author.Tests.{eq-eqb}
use Rattle.memory.specs.Map.{mark_row_numbers, mark_row_ticks, mark_numbers}
use Rattle.layers.specs.declared.Shape.{Shape}
use Rattle.layers.specs.Step.{period, lists, every}
use Rattle.marks.specs.Marks.{marked}
use Rattle.marks.specs.Marking.{Marking, Room, Stride, Follows, again, switched, Tick, Walkable, Walked}
use Rattle.marks.proofs.Bits.{bit, set_on, set_other}

-- One mark.

module _ (k t : ℕ) (w : List ℕ) (hk : k < 8) (ht : t < mark_row_ticks) (room : mark_numbers ≤ length w) where
  abbrev after : List ℕ
  after = set w (mark_row_numbers * k + t / 32) (bit_or (get_or w (mark_row_numbers * k + t / 32) 0) (2 ^ (t % 32)))

  held : get_or after (mark_row_numbers * k + t / 32) 0 ≡ bit_or (get_or w (mark_row_numbers * k + t / 32) 0) (2 ^ (t % 32))
  held = get_or-set_same w (mark_row_numbers * k + t / 32) _ 0 (omega arith)

  here : marked after k t ≡ true
  here = eq-eqb _ _ (ap (λ (v : ℕ). bit v (t % 32)) held ∙ set_on (get_or w (mark_row_numbers * k + t / 32) 0) (t % 32))

  elsewhere : (j x : ℕ) → j < 8 → x < mark_row_ticks → ((j ≡ k) × (x ≡ t) → ⊥) → marked after j x ≡ marked w j x
  elsewhere j x hj hx other = pick (dec_eq (mark_row_numbers * j + x / 32) (mark_row_numbers * k + t / 32))
    where
      pick : Dec (mark_row_numbers * j + x / 32 ≡ mark_row_numbers * k + t / 32) → marked after j x ≡ marked w j x
      pick (yes e) =
          let row : j ≡ k = omega arith in
          let same : x / 32 ≡ t / 32 = omega arith in
          let apart : x % 32 ≢ t % 32 = λ r. other (row, omega arith) in
          ap (λ (v : ℕ). eqb v 1) (ap (λ (y : ℕ). bit (get_or after y 0) (x % 32)) e ∙ ap (λ (v : ℕ). bit v (x % 32)) held ∙ set_other (get_or w (mark_row_numbers * k + t / 32) 0) (t % 32) (x % 32) apart ∙ ap (λ (y : ℕ). bit (get_or w y 0) (x % 32)) (sym e))
      pick (no e) = ap (λ (v : ℕ). eqb (bit v (x % 32)) 1) (get_or-set_other w (mark_row_numbers * k + t / 32) (mark_row_numbers * j + x / 32) _ 0 e)

  one_marked : Marking (λ j x. (j ≡ k) × (x ≡ t)) w after
  one_marked = record {
    len = length-set w _ _;
    above = λ x h. get_or-set_other w (mark_row_numbers * k + t / 32) x _ 0 (omega arith);
    old = λ j x hj hx o. keep j x hj hx o (dec_eq j k) (dec_eq x t);
    new = λ j x hj hx e. rw (e.0, e.1) here;
    only = λ j x hj hx o. back j x hj hx o (dec_eq j k) (dec_eq x t);
  }
    where
      keep : (j x : ℕ) → j < 8 → x < mark_row_ticks → marked w j x ≡ true → Dec (j ≡ k) → Dec (x ≡ t) → marked after j x ≡ true
      keep j x hj hx o (yes a) (yes b) = rw (a, b) here
      keep j x hj hx o (no a) d = elsewhere j x hj hx (λ e. a e.0) ∙ o
      keep j x hj hx o (yes a) (no b) = elsewhere j x hj hx (λ e. b e.1) ∙ o

      back : (j x : ℕ) → j < 8 → x < mark_row_ticks → marked after j x ≡ true → Dec (j ≡ k) → Dec (x ≡ t) → (marked w j x ≡ true) ⊎ ((j ≡ k) × (x ≡ t))
      back j x hj hx o (yes a) (yes b) = inr (a, b)
      back j x hj hx o (no a) d = inl (sym (elsewhere j x hj hx (λ e. a e.0)) ∙ o)
      back j x hj hx o (yes a) (no b) = inl (sym (elsewhere j x hj hx (λ e. b e.1)) ∙ o)

pub mark_one : (k t v : ℕ) (w : List ℕ) → v ≡ 2 ^ (t % 32) → k < 8 → t < mark_row_ticks → mark_numbers ≤ length w
    → Marking (λ j x. (j ≡ k) × (x ≡ t)) w (set w (mark_row_numbers * k + t / 32) (bit_or (get_or w (mark_row_numbers * k + t / 32) 0) v))
mark_one k t v w e hk ht room = rw e (one_marked k t w hk ht room)

-- One step after another.

-- where all of P is marked already
marking_done : (P : ℕ → ℕ → Type 0) (w : List ℕ) → ((k t : ℕ) → P k t → marked w k t ≡ true) → Marking P w w
marking_done P w done = record { len = refl; above = λ x h. refl; old = λ k t a b o. o; new = λ k t a b. done k t; only = λ k t a b o. inl o }

pub marking_none : (P : ℕ → ℕ → Type 0) (w : List ℕ) → ((k t : ℕ) → P k t → ⊥) → Marking P w w
marking_none P w never = marking_done P w (λ k t p. absurd (never k t p))

-- where a test that P needs has failed
pub marking_off : (P : ℕ → ℕ → Type 0) (w : List ℕ) (b : Bool) → b ≡ false → ((k t : ℕ) → P k t → b ≡ true) → Marking P w w
marking_off P w b off on = marking_none P w (λ k t p. clash (on k t p))
  where
    clash : b ≡ true → ⊥
    clash e = let z : ◌≡◌ {A = ℕ} 0 1 = cc in omega arith

-- R is what P or Q is
pub marking_both : (P Q R : ℕ → ℕ → Type 0) {w w' w'' : List ℕ} → ((k t : ℕ) → R k t → P k t ⊎ Q k t) → ((k t : ℕ) → P k t → R k t) → ((k t : ℕ) → Q k t → R k t)
    → Marking P w w' → Marking Q w' w'' → Marking R w w''
marking_both P Q R split left right A B = record {
  len = B.len ∙ A.len;
  above = λ x h. B.above x h ∙ A.above x h;
  old = λ k t a b o. B.old k t a b (A.old k t a b o);
  new = λ k t a b r. ⊎_elim (λ p. B.old k t a b (A.new k t a b p)) (λ q. B.new k t a b q) (split k t r);
  only = λ k t a b o. ⊎_elim (λ y. ⊎_elim (λ z. inl z) (λ z. inr (left k t z)) (A.only k t a b y)) (λ y. inr (right k t y)) (B.only k t a b o);
}

pub marking_as : (P Q : ℕ → ℕ → Type 0) {w w' : List ℕ} → ((k t : ℕ) → P k t → Q k t) → ((k t : ℕ) → Q k t → P k t) → Marking P w w' → Marking Q w w'
marking_as P Q to from A = record {
  len = A.len;
  above = A.above;
  old = A.old;
  new = λ k t a b q. A.new k t a b (from k t q);
  only = λ k t a b o. ⊎_elim (λ z. inl z) (λ z. inr (to k t z)) (A.only k t a b o);
}

-- where all of P is at tick n or later, the marks before it are as they were
marking_before : (P : ℕ → ℕ → Type 0) (n : ℕ) {w w' : List ℕ} → ((k t : ℕ) → P k t → n ≤ t) → Marking P w w' → (k t : ℕ) → k < 8 → t < mark_row_ticks → t < n → marked w' k t ≡ true → marked w k t ≡ true
marking_before P n later A k t a b l o = ⊎_elim (λ z. z) (λ p. absurd (omega (arith, later k t p))) (A.only k t a b o)

-- The strides of a switch.

-- from each tick before t at which the mode k is marked, the strides of q in a stay of p ticks, up to the horizon h, are marked of the mode j
abbrev pub Laid : ℕ → ℕ → ℕ → ℕ → ℕ → ℕ → List ℕ → Type 0
Laid p q h t k j w = (e x : ℕ) → e < t → marked w k e ≡ true → x ≤ h → Stride p q e x → marked w j x ≡ true

-- the walk to tick t has marked those of a switch that is listed
pub switch_laid : (s : Shape) (h t k j : ℕ) (w : List ℕ) → k < s.modes → j < s.modes → lists s k j ≡ true → Walked s h t w → Laid (period s k) (every s k j) h t k j w
switch_laid s h t k j w a b on W = λ e x l o i r. W.closed k e j x a l o (switched (record { target = b; listed = on; within = i; stride = r }))

-- x is one of the first strides of q after t, those below i
pub record Sofar (q t i x : ℕ) : Type 0 where
  pub count : ℕ
  pub some : 1 ≤ count
  pub before : count < i
  pub reached : x ≡ t + count * q

-- a stride that is counted fits
pub stride_fits : (a q n i : ℕ) → n ≡ a / q → i ≤ n → i * q ≤ a
stride_fits a q n i e h = omega (arith, mul-le-mul_right q h, ap (λ (x : ℕ). x * q) e, div-mul-le_self a q)

module _ (q t j : ℕ) where
  -- the strides below i are marked: counted from t - q, where the mode k is marked, each is the next one
  pub switch_start : (h p k n i : ℕ) (w : List ℕ) → 1 ≤ q → n ≡ min (h - t) p / q → Laid p q h t k j w → i ≤ max 1 n → (1 < i → (q ≤ t) × (marked w k (t - q) ≡ true))
      → Marking (λ k x. (k ≡ j) × Sofar q t i x) w w
  switch_start h p k n i w pos e laid few on = marking_done _ w done
    where
      done : (l x : ℕ) → (l ≡ j) × Sofar q t i x → marked w l x ≡ true
      done l x (a, s) =
          let (back, o) = on (omega (arith, s.some, s.before)) in
          let fits : suc s.count * q ≤ min (h - t) p = stride_fits (min (h - t) p) q n (suc s.count) e (omega (arith, s.some, s.before)) in
          let reached : x ≡ (t - q) + suc s.count * q = omega (arith, s.reached, suc-mul s.count q) in
          rw a (laid (t - q) x (omega arith) o (omega arith) (record { count = suc s.count; some = omega arith; fits = omega arith; reached = reached }))

  pub switch_more : (i : ℕ) {w w' w'' : List ℕ} → 1 ≤ i → Marking (λ k x. (k ≡ j) × Sofar q t i x) w w' → Marking (λ k x. (k ≡ j) × (x ≡ t + i * q)) w' w''
      → Marking (λ k x. (k ≡ j) × Sofar q t (i + 1) x) w w''
  switch_more i h = marking_both _ _ _ split left right
    where
      last : (x c : ℕ) → c ≡ i → x ≡ t + c * q → x ≡ t + i * q
      last x c e r = rw e at r

      split : (k x : ℕ) → (k ≡ j) × Sofar q t (i + 1) x → ((k ≡ j) × Sofar q t i x) ⊎ ((k ≡ j) × (x ≡ t + i * q))
      split k x (a, s) = pick (dec_lt s.count i)
        where
          pick : Dec (s.count < i) → ((k ≡ j) × Sofar q t i x) ⊎ ((k ≡ j) × (x ≡ t + i * q))
          pick (yes l) = inl (a, record { count = s.count; some = s.some; before = l; reached = s.reached })
          pick (no l) = inr (a, last x s.count (omega (arith, s.before)) s.reached)

      left : (k x : ℕ) → (k ≡ j) × Sofar q t i x → (k ≡ j) × Sofar q t (i + 1) x
      left k x (a, s) = (a, record { count = s.count; some = s.some; before = omega (arith, s.before); reached = s.reached })

      right : (k x : ℕ) → (k ≡ j) × (x ≡ t + i * q) → (k ≡ j) × Sofar q t (i + 1) x
      right k x (a, e) = (a, record { count = i; some = h; before = omega arith; reached = e })

  -- the strides that fit into the stay, and end by the horizon, are those that fit into the smaller of the two
  pub switch_end : (h p i : ℕ) {w w' : List ℕ} → 1 ≤ q → t ≤ h → i ≡ min (h - t) p / q + 1 → Marking (λ k x. (k ≡ j) × Sofar q t i x) w w'
      → Marking (λ k x. (k ≡ j) × (x ≤ h) × Stride p q t x) w w'
  switch_end h p i pos within e = marking_as _ _ to from
    where
      to : (k x : ℕ) → (k ≡ j) × Sofar q t i x → (k ≡ j) × (x ≤ h) × Stride p q t x
      to k x (a, s) =
          let fits : s.count * q ≤ min (h - t) p = (le-div_iff_mul-le pos).0 (omega (arith, s.before)) in
          (a, omega (arith, s.reached), record { count = s.count; some = s.some; fits = omega arith; reached = s.reached })

      from : (k x : ℕ) → (k ≡ j) × (x ≤ h) × Stride p q t x → (k ≡ j) × Sofar q t i x
      from k x (a, l, s) =
          let few : s.count ≤ min (h - t) p / q = (le-div_iff_mul-le pos).1 (omega (arith, s.fits, s.reached)) in
          (a, record { count = s.count; some = s.some; before = omega arith; reached = s.reached })

-- The walk to a tick.

-- a mode leads to a mode, later and up to the horizon
pub follows_later : (s : Shape) (h k t j x : ℕ) → Walkable s h → k < s.modes → Follows s h k t j x → (j < s.modes) × (t < x) × (x ≤ h)
follows_later s h k t j x ok i (again a b c) = (omega arith, omega (arith, ok.positive k i), c)
follows_later s h k t j x ok i (switched o) = (o.target, omega (arith, o.stride.reached, one-le-mul o.stride.some (ok.switches k j i o.target o.listed)), o.within)

-- marks at tick t and later leave the walk to it as it is
pub walked_kept : (P : ℕ → ℕ → Type 0) {s : Shape} {h t : ℕ} {w w' : List ℕ} → Walkable s h → ((k x : ℕ) → P k x → t ≤ x) → Marking P w w' → Walked s h t w → Walked s h t w'
walked_kept P {s} {h} {t} {w} {w'} ok later A W = record { room = record { within = R.within; numbers = omega (arith, A.len, R.numbers) }; closed = closed }
  where
    R : Room h t w
    R = W.room

    closed : (k e j x : ℕ) → k < s.modes → e < t → marked w' k e ≡ true → Follows s h k e j x → marked w' j x ≡ true
    closed k e j x i l o f =
        let (there, after, within) = follows_later s h k e j x ok i f in
        A.old j x (omega (arith, ok.few)) (omega (arith, ok.most)) (W.closed k e j x i l (marking_before P t later A k e (omega (arith, ok.few)) (omega (arith, R.within, ok.most)) l o) f)

-- The modes at a tick, those below n.

pub tick_later : (s : Shape) (h t : ℕ) → Walkable s h → (n : ℕ) (w : List ℕ) → n ≤ s.modes → (j x : ℕ) → Tick s h t n w j x → t < x
tick_later s h t ok n w i j x a = (follows_later s h a.mode t j x ok (omega (arith, a.there)) a.follows).1

module _ (s : Shape) (h t : ℕ) (ok : Walkable s h) (in_row : t < mark_row_ticks) where
  -- the marks at the tick itself are as they were
  pub tick_same : (n : ℕ) {w w' : List ℕ} → n ≤ s.modes → Marking (Tick s h t n w) w w' → (k : ℕ) → k < 8 → marked w' k t ≡ true → marked w k t ≡ true
  tick_same n {w} i A k l = marking_before _ (t + 1) (λ j x a. omega (arith, tick_later s h t ok n w i j x a)) A k t l in_row (omega arith)

  tick_more : (n : ℕ) {w w' w'' : List ℕ} → n < s.modes → Marking (Tick s h t n w) w w' → Marking (λ j x. (marked w' n t ≡ true) × Follows s h n t j x) w' w''
      → Marking (Tick s h t (n + 1) w) w w''
  tick_more n {w} {w'} i A = marking_both _ _ _ split left right A
    where
      last : (j x k : ℕ) → k ≡ n → marked w k t ≡ true → Follows s h k t j x → (marked w' n t ≡ true) × Follows s h n t j x
      last j x k e o f = (A.old n t (omega (arith, ok.few)) in_row (rw e at o), rw e at f)

      split : (j x : ℕ) → Tick s h t (n + 1) w j x → Tick s h t n w j x ⊎ ((marked w' n t ≡ true) × Follows s h n t j x)
      split j x a = pick (dec_lt a.mode n)
        where
          pick : Dec (a.mode < n) → Tick s h t n w j x ⊎ ((marked w' n t ≡ true) × Follows s h n t j x)
          pick (yes l) = inl (record { mode = a.mode; there = l; on = a.on; follows = a.follows })
          pick (no l) = inr (last j x a.mode (omega (arith, a.there)) a.on a.follows)

      left : (j x : ℕ) → Tick s h t n w j x → Tick s h t (n + 1) w j x
      left j x a = record { mode = a.mode; there = omega (arith, a.there); on = a.on; follows = a.follows }

      right : (j x : ℕ) → (marked w' n t ≡ true) × Follows s h n t j x → Tick s h t (n + 1) w j x
      right j x (o, f) = record { mode = n; there = omega arith; on = tick_same n (omega arith) A n (omega (arith, ok.few)) o; follows = f }

  -- the mode n is followed where it is marked
  pub tick_on : (n : ℕ) {w w' w'' : List ℕ} → n < s.modes → marked w' n t ≡ true → Marking (Tick s h t n w) w w' → Marking (Follows s h n t) w' w'' → Marking (Tick s h t (n + 1) w) w w''
  tick_on n i on A B = tick_more n i A (marking_as _ _ (λ j x f. (on, f)) (λ j x f. f.1) B)

  pub tick_off : (n : ℕ) {w w' : List ℕ} → n < s.modes → marked w' n t ≡ false → Marking (Tick s h t n w) w w' → Marking (Tick s h t (n + 1) w) w w'
  tick_off n i off A = tick_more n i A (marking_off _ _ _ off (λ j x f. f.0))

-- Where no mode is marked at tick t nothing is.

pub tick_unmarked : (s : Shape) (h t : ℕ) (w : List ℕ) → ((k : ℕ) → k < s.modes → marked w k t ≡ false) → Marking (Tick s h t s.modes w) w w
tick_unmarked s h t w none = marking_none _ w (λ j x a. true≢false (sym a.on ∙ none a.mode a.there))
