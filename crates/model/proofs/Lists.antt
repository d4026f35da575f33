-- Laws of two tests, of largest values, of sums, and of what holds of each element of a list. Assumes nothing.
use mathlib.Core.Path.{◌≡◌, refl, sym, ◌∙◌, ap₂}
use mathlib.Core.Logic.{◌⊎◌, inl, inr}
use mathlib.Core.Bool.{Bool, true, false, ◌||◌, false≢true}
use mathlib.Core.List.Memᴰ
use mathlib.Core.List.{List, [], ◌∷◌, map, Memᴰ}
use Prim.Native.Nat.{ℕ, zero, suc, ◌+◌, ◌≤◌, ◌<◌, max}
use native.Mathlib.Nat.{add-zero, suc-add, add-suc, le-max_left, le-max_right, le_antisymm, le_trans, le_of_suc-le-suc}
use native.Mathlib.Decide.{dec_le, dec_lt, ℕ_discrete}
use native.Mathlib.Omega.{arith}
use lib.ListN.{length, get_or}
use Rattle.model.specs.Lists.{sum_of, max_of, max_below, any_below, ticks, All, AllFrom, Pairwise, SumIs, IsLargest}

-- Either of two tests.

pub or_either : (b c : Bool) → b || c ≡ true → (b ≡ true) ⊎ (c ≡ true)
or_either true c e = inl refl
or_either false c e = inr e

pub or_left : (b c : Bool) → b ≡ true → b || c ≡ true
or_left b c e = rw e

pub or_right : (b c : Bool) → c ≡ true → b || c ≡ true
or_right true c e = refl
or_right false c e = e

-- Some number below n.

pub any_below_some : (q : ℕ → Bool) (n : ℕ) → any_below q n ≡ true → (j : ℕ) × (j < n) × (q j ≡ true)
any_below_some q zero h = absurd (false≢true h)
any_below_some q (suc n) h = pick (or_either (q n) (any_below q n) h) (any_below_some q n)
  where
    pick : (q n ≡ true) ⊎ (any_below q n ≡ true) → (any_below q n ≡ true → (j : ℕ) × (j < n) × (q j ≡ true)) → (j : ℕ) × (j < suc n) × (q j ≡ true)
    pick (inl e) below = (n, omega arith, e)
    pick (inr e) below = let r = below e in (r.0, omega arith, r.2)

pub some_any_below : (q : ℕ → Bool) (n j : ℕ) → j < n → q j ≡ true → any_below q n ≡ true
some_any_below q zero j h e = absurd (omega arith)
some_any_below q (suc n) j h e = pick (dec_lt j n) (λ l. some_any_below q n j l e)
  where
    pick : Dec (j < n) → (j < n → any_below q n ≡ true) → any_below q (suc n) ≡ true
    pick (yes l) below = or_right (q n) _ (below l)
    pick (no l) below = let last : n ≡ j = omega arith in or_left (q n) _ (rw last e)

-- The largest of what is attained.

pub largest_unique : (P : ℕ → Type 0) (v w : ℕ) → IsLargest P v → IsLargest P w → v ≡ w
largest_unique P v w hv hw = le_antisymm (hw.1 v hv.0) (hv.1 w hw.0)

-- The largest value over a list.

pub le_max_of : {A : Type 0} (f : A → ℕ) (x : A) (xs : List A) → Memᴰ x xs → f x ≤ max_of f xs
le_max_of f x [] i = elim i [ ]
le_max_of f x (y ∷ ys) (Memᴰ.head e) = rw e (le-max_left (f y) (max_of f ys))
le_max_of f x (y ∷ ys) (Memᴰ.tail h) = le_trans (le_max_of f x ys h) (le-max_right (f y) (max_of f ys))

max_of_cons : {A : Type 0} (f : A → ℕ) (x : A) (xs : List A) → (y : A) × Memᴰ y (x ∷ xs) × (f y ≡ max_of f (x ∷ xs))
max_of_cons f x [] = (x, Memᴰ.head refl, omega arith)
max_of_cons {A} f x (z ∷ xs) = pick (max_of_cons f z xs) (dec_le (max_of f (z ∷ xs)) (f x))
  where
    pick : (y : A) × Memᴰ y (z ∷ xs) × (f y ≡ max_of f (z ∷ xs)) → Dec (max_of f (z ∷ xs) ≤ f x) → (y : A) × Memᴰ y (x ∷ (z ∷ xs)) × (f y ≡ max_of f (x ∷ (z ∷ xs)))
    pick r (yes h) = (x, Memᴰ.head refl, omega arith)
    pick r (no h) = (r.0, Memᴰ.tail r.1, omega arith)

-- an element of a list that has one reaches it
pub max_of_reached : {A : Type 0} (f : A → ℕ) (x : A) (xs : List A) → Memᴰ x xs → (y : A) × Memᴰ y xs × (f y ≡ max_of f xs)
max_of_reached f x [] h = absurd (Memᴰ.not-nil h)
max_of_reached f x (z ∷ xs) h = max_of_cons f z xs

pub max_of_same : {A : Type 0} (f g : A → ℕ) (xs : List A) → ((x : A) → Memᴰ x xs → f x ≡ g x) → max_of f xs ≡ max_of g xs
max_of_same f g [] h = refl
max_of_same f g (x ∷ xs) h = omega (arith, h x (Memᴰ.head refl), max_of_same f g xs (λ y i. h y (Memᴰ.tail i)))

pub max_of_zero : {A : Type 0} (xs : List A) → max_of (λ x. 0) xs ≡ 0
max_of_zero [] = refl
max_of_zero (x ∷ xs) = omega (arith, max_of_zero xs)

-- The largest value below a number.

pub le_max_below : (f : ℕ → ℕ) (n k : ℕ) → k < n → f k ≤ max_below f n
le_max_below f zero k h = omega arith
le_max_below f (suc n) k h = pick (ℕ_discrete k n) (le_max_below f n k)
  where
    pick : Dec (k ≡ n) → (k < n → f k ≤ max_below f n) → f k ≤ max (f n) (max_below f n)
    pick (yes e) below = rw e (le-max_left (f n) (max_below f n))
    pick (no e) below = le_trans (below (omega arith)) (le-max_right (f n) (max_below f n))

max_below_suc : (f : ℕ → ℕ) (n : ℕ) → (k : ℕ) × (k < suc n) × (f k ≡ max_below f (suc n))
max_below_suc f zero = (0, omega arith, omega arith)
max_below_suc f (suc n) = pick (max_below_suc f n) (dec_le (max_below f (suc n)) (f (suc n)))
  where
    pick : (k : ℕ) × (k < suc n) × (f k ≡ max_below f (suc n)) → Dec (max_below f (suc n) ≤ f (suc n)) → (k : ℕ) × (k < suc (suc n)) × (f k ≡ max_below f (suc (suc n)))
    pick r (yes h) = (suc n, omega arith, omega arith)
    pick r (no h) = (r.0, omega arith, omega arith)

pub max_below_reached : (f : ℕ → ℕ) (n : ℕ) → 1 ≤ n → (k : ℕ) × (k < n) × (f k ≡ max_below f n)
max_below_reached f zero h = absurd (omega arith)
max_below_reached f (suc n) h = max_below_suc f n

pub max_below_le : (f : ℕ → ℕ) (c n : ℕ) → ((k : ℕ) → k < n → f k ≤ c) → max_below f n ≤ c
max_below_le f c zero h = omega arith
max_below_le f c (suc n) h = omega (arith, h n (omega arith), max_below_le f c n (λ k l. h k (omega arith)))

pub max_below_same : (f g : ℕ → ℕ) (n : ℕ) → ((k : ℕ) → k < n → f k ≡ g k) → max_below f n ≡ max_below g n
max_below_same f g zero h = refl
max_below_same f g (suc n) h = omega (arith, h n (omega arith), max_below_same f g n (λ k l. h k (omega arith)))

-- What holds of each element.

pub all_mem : {A : Type 0} (P : A → Type 0) (x : A) (xs : List A) → All P xs → Memᴰ x xs → P x
all_mem P x [] h i = elim i [ ]
all_mem P x (y ∷ ys) h (Memᴰ.head e) = rw e h.0
all_mem P x (y ∷ ys) h (Memᴰ.tail k) = all_mem P x ys h.1 k

pub all_at : {A : Type 0} (P : A → Type 0) (d : A) (xs : List A) → All P xs → (k : ℕ) → k < length xs → P (get_or xs k d)
all_at P d [] h k l = absurd (omega arith)
all_at P d (x ∷ xs) h zero l = h.0
all_at P d (x ∷ xs) h (suc k) l = all_at P d xs h.1 k (le_of_suc-le-suc l)

pub all_from_at : {A : Type 0} (P : ℕ → A → Type 0) (d : A) (i : ℕ) (xs : List A) → AllFrom P i xs → (k : ℕ) → k < length xs → P (i + k) (get_or xs k d)
all_from_at P d i [] h k l = absurd (omega arith)
all_from_at P d i (x ∷ xs) h zero l = rw add-zero h.0
all_from_at P d i (x ∷ xs) h (suc k) l = rw add-suc (rw suc-add at (all_from_at P d (suc i) xs h.1 k (le_of_suc-le-suc l)))

-- Of elements that have P, each of which R gives the number f: their sum.
module _ {A : Type 0} (P : A → Type 0) (R : A → ℕ → Type 0) (f : A → ℕ) where
  pub sum_is : ((x : A) → P x → R x (f x)) → (xs : List A) → All P xs → SumIs R xs (sum_of f xs)
  sum_is given [] h = refl
  sum_is given (x ∷ xs) h = (f x, sum_of f xs, given x h.0, sum_is given xs h.1, refl)

  pub sum_only : ((x : A) → P x → (v : ℕ) → R x v → v ≡ f x) → (xs : List A) → All P xs → (v : ℕ) → SumIs R xs v → v ≡ sum_of f xs
  sum_only only [] h v e = e
  sum_only only (x ∷ xs) h v r = r.4 ∙ ap₂ (λ (a b : ℕ). a + b) (only x h.0 r.0 r.2) (sum_only only xs h.1 r.1 r.3)

-- Sums over ticks and over a list.

-- two sums that agree at each tick before their end
pub ticks_same : (f g : ℕ → ℕ) (t n : ℕ) → ((u : ℕ) → u < t + n → f u ≡ g u) → ticks f t n ≡ ticks g t n
ticks_same f g t zero h = refl
ticks_same f g t (suc n) h = omega (arith, h t (omega arith), ticks_same f g (suc t) n (λ u l. h u (omega arith)))

pub sum_of_zero : {A : Type 0} (xs : List A) → sum_of (λ x. 0) xs ≡ 0
sum_of_zero [] = refl
sum_of_zero (x ∷ xs) = omega (arith, sum_of_zero xs)

pub sum_of_add : {A : Type 0} (f g : A → ℕ) (xs : List A) → sum_of (λ x. f x + g x) xs ≡ sum_of f xs + sum_of g xs
sum_of_add f g [] = refl
sum_of_add f g (x ∷ xs) = omega (arith, sum_of_add f g xs)

-- a sum over ticks of sums over a list is the sum over the list of sums over ticks
pub ticks_sum_of : {A : Type 0} (f : ℕ → A → ℕ) (xs : List A) (t n : ℕ) → ticks (λ u. sum_of (f u) xs) t n ≡ sum_of (λ x. ticks (λ u. f u x) t n) xs
ticks_sum_of f xs t zero = sym (sum_of_zero xs)
ticks_sum_of f xs t (suc n) = omega (arith, ticks_sum_of f xs (suc t) n, sum_of_add (f t) (λ x. ticks (λ u. f u x) (suc t) n) xs)

pub sum_of_same : {A : Type 0} (P : A → Type 0) (f g : A → ℕ) → ((x : A) → P x → f x ≡ g x) → (xs : List A) → All P xs → sum_of f xs ≡ sum_of g xs
sum_of_same P f g e [] h = refl
sum_of_same P f g e (x ∷ xs) h = omega (arith, e x h.0, sum_of_same P f g e xs h.1)

-- Two lists, element by element.

pub pairwise_map : {A B : Type 0} (P : A → Type 0) (R : A → B → Type 0) (f : A → B) → ((x : A) → P x → R x (f x)) → (xs : List A) → All P xs → Pairwise R xs (map f xs)
pairwise_map P R f given [] h = tt
pairwise_map P R f given (x ∷ xs) h = (given x h.0, pairwise_map P R f given xs h.1)

pub pairwise_unique : {A B : Type 0} (R : A → B → Type 0) → ((x : A) (y z : B) → R x y → R x z → y ≡ z)
    → (xs : List A) (ys zs : List B) → Pairwise R xs ys → Pairwise R xs zs → ys ≡ zs
pairwise_unique R only [] [] [] p q = refl
pairwise_unique R only [] [] (z ∷ zs) p q = absurd q
pairwise_unique R only [] (y ∷ ys) zs p q = absurd p
pairwise_unique R only (x ∷ xs) [] zs p q = absurd p
pairwise_unique R only (x ∷ xs) (y ∷ ys) [] p q = absurd q
pairwise_unique R only (x ∷ xs) (y ∷ ys) (z ∷ zs) p q = ap₂ ◌∷◌ (only x y z p.0 q.0) (pairwise_unique R only xs ys zs p.1 q.1)
