-- Lists joined and numbers added over the numbered elements of a list and over ticks: their elements, their sums. Assumes nothing.
use mathlib.Core.Path.{◌≡◌, refl}
use mathlib.Core.Logic.{◌⊎◌, inl, inr}
use mathlib.Core.List.Memᴰ
use mathlib.Core.List.{List, [], ◌∷◌, ◌++◌, Memᴰ}
use Prim.Native.Nat.{ℕ, zero, suc, ◌+◌, ◌≤◌, ◌<◌, zero-le}
use native.Mathlib.Nat.{le_refl}
use native.Mathlib.Decide.{ℕ_discrete}
use native.Mathlib.Omega.{arith}
use Rattle.model.specs.Lists.{sum_of, ticks, Nth}

-- Sums over a list.

sum_of_append : {A : Type 0} (f : A → ℕ) (xs ys : List A) → sum_of f (xs ++ ys) ≡ sum_of f xs + sum_of f ys
sum_of_append f [] ys = omega arith
sum_of_append f (x ∷ xs) ys = omega (arith, sum_of_append f xs ys)

pub sum_of_le : {A : Type 0} (f g : A → ℕ) (xs : List A) → ((x : A) → Memᴰ x xs → f x ≤ g x) → sum_of f xs ≤ sum_of g xs
sum_of_le f g [] h = zero-le
sum_of_le f g (x ∷ xs) h = omega (arith, h x (Memᴰ.head refl), sum_of_le f g xs (λ y m. h y (Memᴰ.tail m)))

-- .. and at one of its elements there is a difference
pub sum_of_lt : {A : Type 0} (f g : A → ℕ) (xs : List A) → ((x : A) → Memᴰ x xs → f x ≤ g x) → (y : A) → Memᴰ y xs → f y < g y → sum_of f xs < sum_of g xs
sum_of_lt f g [] h y m k = absurd (Memᴰ.not-nil m)
sum_of_lt f g (x ∷ xs) h y (Memᴰ.head e) k = omega (arith, rw e at k, sum_of_le f g xs (λ z m. h z (Memᴰ.tail m)))
sum_of_lt f g (x ∷ xs) h y (Memᴰ.tail m) k = omega (arith, h x (Memᴰ.head refl), sum_of_lt f g xs (λ z n. h z (Memᴰ.tail n)) y m k)

-- The numbered elements of a list.

-- what g gives for each element and its number, added
abbrev pub sum_over : {A : Type 0} → (ℕ → A → ℕ) → List A → ℕ
sum_over g [] = 0
sum_over g (x ∷ xs) = g 0 x + sum_over (λ i. g (suc i)) xs

-- .. and joined
abbrev pub join_over : {A B : Type 0} → (ℕ → A → List B) → List A → List B
join_over g [] = []
join_over g (x ∷ xs) = g 0 x ++ join_over (λ i. g (suc i)) xs

pub sum_join_over : {A B : Type 0} (f : B → ℕ) (g : ℕ → A → List B) (xs : List A) → sum_of f (join_over g xs) ≡ sum_over (λ i x. sum_of f (g i x)) xs
sum_join_over f g [] = refl
sum_join_over f g (x ∷ xs) = omega (arith, sum_of_append f (g 0 x) (join_over (λ i. g (suc i)) xs), sum_join_over f (λ i. g (suc i)) xs)

-- y is in the list that g gives for one of the elements
abbrev pub FoundOver : {A B : Type 0} → (ℕ → A → List B) → List A → B → Type 0
FoundOver {A} g xs y = (i : ℕ) × (x : A) × Nth xs i x × Memᴰ y (g i x)

pub in_join_over : {A B : Type 0} (g : ℕ → A → List B) (xs : List A) (y : B) → Memᴰ y (join_over g xs) → FoundOver g xs y
in_join_over g [] y m = absurd (Memᴰ.not-nil m)
in_join_over g (x ∷ xs) y m = pick (Memᴰ.append_cases (g 0 x) m) (in_join_over (λ i. g (suc i)) xs y)
  where
    pick : Memᴰ y (g 0 x) ⊎ Memᴰ y (join_over (λ i. g (suc i)) xs)
        → (Memᴰ y (join_over (λ i. g (suc i)) xs) → FoundOver (λ i. g (suc i)) xs y) → FoundOver g (x ∷ xs) y
    pick (inl k) below = (0, x, refl, k)
    pick (inr k) below = let r = below k in (suc r.0, r.1, r.2, r.3)

pub join_over_in : {A B : Type 0} (g : ℕ → A → List B) (xs : List A) (y : B) (i : ℕ) (x : A) → Nth xs i x → Memᴰ y (g i x) → Memᴰ y (join_over g xs)
join_over_in g [] y i x n m = absurd n
join_over_in g (z ∷ xs) y zero x n m = Memᴰ.append_left (join_over (λ i. g (suc i)) xs) (rw n at m)
join_over_in g (z ∷ xs) y (suc i) x n m = Memᴰ.append_right (g 0 z) (join_over_in (λ j. g (suc j)) xs y i x n m)

pub sum_over_same : {A : Type 0} (f g : ℕ → A → ℕ) → ((i : ℕ) (x : A) → f i x ≡ g i x) → (xs : List A) → sum_over f xs ≡ sum_over g xs
sum_over_same f g e [] = refl
sum_over_same f g e (x ∷ xs) = omega (arith, e 0 x, sum_over_same (λ i. f (suc i)) (λ i. g (suc i)) (λ i. e (suc i)) xs)

-- where the number plays no part
pub sum_over_plain : {A : Type 0} (f : A → ℕ) (xs : List A) → sum_over (λ i x. f x) xs ≡ sum_of f xs
sum_over_plain f [] = refl
sum_over_plain f (x ∷ xs) = omega (arith, sum_over_plain f xs)

pub sum_over_none : {A : Type 0} (g : ℕ → A → ℕ) → ((i : ℕ) (x : A) → g i x ≡ 0) → (xs : List A) → sum_over g xs ≡ 0
sum_over_none g none [] = refl
sum_over_none g none (x ∷ xs) = omega (arith, none 0 x, sum_over_none (λ i. g (suc i)) (λ i. none (suc i)) xs)

-- g gives 1 at most, and that only for the number c
pub sum_over_one : {A : Type 0} (g : ℕ → A → ℕ) (c : ℕ) → ((i : ℕ) (x : A) → g i x ≤ 1) → ((i : ℕ) (x : A) → (c ≡ i → ⊥) → g i x ≡ 0)
    → (xs : List A) → sum_over g xs ≤ 1
sum_over_one g c one none [] = zero-le
sum_over_one g zero one none (x ∷ xs) = omega (arith, one 0 x, sum_over_none (λ i. g (suc i)) (λ i y. none (suc i) y (omega arith)) xs)
sum_over_one g (suc c) one none (x ∷ xs) =
    omega (arith, none 0 x (omega arith), sum_over_one (λ i. g (suc i)) c (λ i. one (suc i)) (λ i y n. none (suc i) y (λ e. n (omega arith))) xs)

-- Ticks.

-- what g gives for each of the n ticks from t on, joined
abbrev pub join_ticks : {B : Type 0} → (ℕ → List B) → ℕ → ℕ → List B
join_ticks g t zero = []
join_ticks g t (suc n) = g t ++ join_ticks g (suc t) n

pub sum_join_ticks : {B : Type 0} (f : B → ℕ) (g : ℕ → List B) (t n : ℕ) → sum_of f (join_ticks g t n) ≡ ticks (λ u. sum_of f (g u)) t n
sum_join_ticks f g t zero = refl
sum_join_ticks f g t (suc n) = omega (arith, sum_of_append f (g t) (join_ticks g (suc t) n), sum_join_ticks f g (suc t) n)

-- y is in the list that g gives for one of the ticks
abbrev pub FoundTick : {B : Type 0} → (ℕ → List B) → ℕ → ℕ → B → Type 0
FoundTick g t n y = (u : ℕ) × (t ≤ u) × (u < t + n) × Memᴰ y (g u)

pub in_join_ticks : {B : Type 0} (g : ℕ → List B) (t n : ℕ) (y : B) → Memᴰ y (join_ticks g t n) → FoundTick g t n y
in_join_ticks g t zero y m = absurd (Memᴰ.not-nil m)
in_join_ticks g t (suc n) y m = pick (Memᴰ.append_cases (g t) m) (in_join_ticks g (suc t) n y)
  where
    pick : Memᴰ y (g t) ⊎ Memᴰ y (join_ticks g (suc t) n) → (Memᴰ y (join_ticks g (suc t) n) → FoundTick g (suc t) n y) → FoundTick g t (suc n) y
    pick (inl k) below = (t, le_refl t, omega arith, k)
    pick (inr k) below = let r = below k in (r.0, omega arith, omega arith, r.3)

pub join_ticks_in : {B : Type 0} (g : ℕ → List B) (t n : ℕ) (y : B) (u : ℕ) → t ≤ u → u < t + n → Memᴰ y (g u) → Memᴰ y (join_ticks g t n)
join_ticks_in g t zero y u l k m = absurd (omega arith)
join_ticks_in g t (suc n) y u l k m = pick (ℕ_discrete u t) (join_ticks_in g (suc t) n y u)
  where
    pick : Dec (u ≡ t) → (suc t ≤ u → u < suc t + n → Memᴰ y (g u) → Memᴰ y (join_ticks g (suc t) n)) → Memᴰ y (g t ++ join_ticks g (suc t) n)
    pick (yes e) below = Memᴰ.append_left (join_ticks g (suc t) n) (rw e at m)
    pick (no e) below = Memᴰ.append_right (g t) (below (omega arith) (omega arith) m)

pub ticks_none : (f : ℕ → ℕ) (t n : ℕ) → ((u : ℕ) → t ≤ u → f u ≡ 0) → ticks f t n ≡ 0
ticks_none f t zero none = refl
ticks_none f t (suc n) none = omega (arith, none t (le_refl t), ticks_none f (suc t) n (λ u l. none u (omega arith)))

-- f gives 1 at most, and that only at the tick c
pub ticks_one : (f : ℕ → ℕ) (c : ℕ) → ((u : ℕ) → f u ≤ 1) → ((u : ℕ) → (c ≡ u → ⊥) → f u ≡ 0) → (t n : ℕ) → ticks f t n ≤ 1
ticks_one f c one none t zero = zero-le
ticks_one f c one none t (suc n) = pick (ℕ_discrete c t) (ticks_one f c one none (suc t) n)
  where
    pick : Dec (c ≡ t) → ticks f (suc t) n ≤ 1 → f t + ticks f (suc t) n ≤ 1
    pick (yes e) below = omega (arith, one t, ticks_none f (suc t) n (λ u l. none u (omega arith)))
    pick (no e) below = omega (arith, none t e)
