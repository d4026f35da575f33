-- Sums, largest values, and the numbered elements of a list. Assumes nothing.
use Rattle.std.specs.Prelude.{◌≡◌, Bool, true, false, ◌||◌, List, [], ◌∷◌, ℕ, zero, suc, ◌+◌, ◌≤◌, max}

-- n where the test passes, else 0
abbrev pub when : Bool → ℕ → ℕ
when true n = n
when false n = 0

abbrev pub sum_of : {A : Type 0} → (A → ℕ) → List A → ℕ
sum_of f [] = 0
sum_of f (x ∷ xs) = f x + sum_of f xs

abbrev pub max_of : {A : Type 0} → (A → ℕ) → List A → ℕ
max_of f [] = 0
max_of f (x ∷ xs) = max (f x) (max_of f xs)

-- the largest of f at the numbers below n
abbrev pub max_below : (ℕ → ℕ) → ℕ → ℕ
max_below f zero = 0
max_below f (suc n) = max (f n) (max_below f n)

-- whether q holds of a number below n
abbrev pub any_below : (ℕ → Bool) → ℕ → Bool
any_below q zero = false
any_below q (suc n) = q n || any_below q n

-- the sum of f over the n ticks from t on
abbrev pub ticks : (ℕ → ℕ) → ℕ → ℕ → ℕ
ticks f t zero = 0
ticks f t (suc n) = f t + ticks f (suc t) n

-- x is the element that has the number i, counted from 0
abbrev pub Nth : {A : Type 0} → List A → ℕ → A → Type 0
Nth [] i x = ⊥
Nth (y ∷ ys) zero x = x ≡ y
Nth (y ∷ ys) (suc i) x = Nth ys i x

-- P holds of each element
abbrev pub All : {A : Type 0} → (A → Type 0) → List A → Type 0
All P [] = Unit {0}
All P (x ∷ xs) = P x × All P xs

-- P holds of each element with its number, where the first has the number i
abbrev pub AllFrom : {A : Type 0} → (ℕ → A → Type 0) → ℕ → List A → Type 0
AllFrom P i [] = Unit {0}
AllFrom P i (x ∷ xs) = P i x × AllFrom P (suc i) xs

-- no number stands twice
abbrev pub Distinct : List ℕ → Type 0
Distinct [] = Unit {0}
Distinct (x ∷ xs) = All (λ y. x ≡ y → ⊥) xs × Distinct xs

-- R holds of the two lists element by element, and they are of one length
abbrev pub Pairwise : {A B : Type 0} → (A → B → Type 0) → List A → List B → Type 0
Pairwise R [] [] = Unit {0}
Pairwise R [] (y ∷ ys) = ⊥
Pairwise R (x ∷ xs) [] = ⊥
Pairwise R (x ∷ xs) (y ∷ ys) = R x y × Pairwise R xs ys

-- v is the sum over the list of the numbers that R gives
abbrev pub SumIs : {A : Type 0} → (A → ℕ → Type 0) → List A → ℕ → Type 0
SumIs R [] v = v ≡ 0
SumIs R (x ∷ xs) v = (a : ℕ) × (b : ℕ) × R x a × SumIs R xs b × (v ≡ a + b)

-- v is attained, and nothing that is attained exceeds it
abbrev pub IsLargest : (ℕ → Type 0) → ℕ → Type 0
IsLargest P v = P v × ((w : ℕ) → P w → w ≤ v)
