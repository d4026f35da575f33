-- The row of one round more: for each mode the search for a mode that lists it, as an iterator makes it, and the row that is filled from its front. Assumes nothing.
use mathlib.Core.Path.{◌≡◌, refl, sym, ap, ap₂, ◌∙◌}
use mathlib.Core.Bool.{Bool, true, false, ◌&&◌, ◌||◌}
use mathlib.Core.List.{List}
use Prim.Native.Nat.{ℕ, zero, suc, ◌+◌, ◌*◌, ◌≤◌, ◌<◌}
use native.Mathlib.Decide.{dec_lt, ℕ_discrete}
use native.Mathlib.Omega.{arith}
use lib.ListN.{length, get_or, set, replicate, length-set, get_or-replicate, get_or-eq_default}
use lib.Seq.{get_or-set_same, get_or-set_other}
use lib.Dec.{ltb}
use borrow.Author.Tests.{lt-ltb, le-ltb}
use Rattle.model.specs.Limits.{max_modes}
use Rattle.std.specs.List.{list_any, range_with_len}
use Rattle.model.specs.Lists.{any_below}
use Rattle.reach.specs.Names.{listed_by, Names}

-- The search.

pub any_same : (p q : ℕ → Bool) (n : ℕ) → ((k : ℕ) → k < n → p k ≡ q k) → any_below p n ≡ any_below q n
any_same p q zero e = refl
any_same p q (suc n) e = ap₂ ◌||◌ (e n (omega arith)) (any_same p q n (λ k l. e k (omega arith)))

any_first : (p : ℕ → Bool) (n : ℕ) → any_below p (suc n) ≡ (p 0 || any_below (λ k. p (suc k)) n)
any_first p zero = refl
any_first p (suc n) = rw (any_first p n) (swap (p (suc n)) (p 0) (any_below (λ k. p (suc k)) n))
  where
    swap : (a b c : Bool) → (a || (b || c)) ≡ (b || (a || c))
    swap true true c = refl
    swap true false c = refl
    swap false b c = refl

-- an iterator's any over the n numbers from a on
any_from : (p : ℕ → Bool) (a n : ℕ) → list_any p (range_with_len a n) ≡ any_below (λ k. p (a + k)) n
any_from p a zero = refl
any_from p a (suc n) = ap₂ ◌||◌ (ap p (omega arith)) (any_from p (a + 1) n ∙ any_same _ _ n (λ k h. ap p (omega arith))) ∙ sym (any_first (λ k. p (a + k)) n)

pub search_all : (listed : List Bool) (modes : ℕ) (row : List Bool) (t : ℕ)
    → list_any (λ k. get_or row k false && get_or listed (8 * k + t) false) (range_with_len 0 modes) ≡ listed_by listed modes row t
unfolding listed_by
search_all listed modes row t =
    let p : ℕ → Bool = λ k. get_or row k false && get_or listed (8 * k + t) false in
    any_from p 0 modes ∙ any_same _ p modes (λ k h. ap p (omega arith))

-- The row.

pub names_none : (f : ℕ → Bool) → Names 0 f (replicate max_modes false)
names_none f = record { size = refl; each = λ k l. absurd (omega arith); past = λ k l. blank k (dec_lt k max_modes) }
  where
    blank : (k : ℕ) → Dec (k < max_modes) → get_or (replicate max_modes false) k false ≡ false
    blank k (yes l) = get_or-replicate max_modes k false false l
    blank k (no l) = get_or-eq_default (replicate max_modes false) false {n = k} (omega arith)

-- a row that is made place by place
pub names_made : {n : ℕ} {f : ℕ → Bool} {r : List Bool} → length r ≡ max_modes → ((k : ℕ) → k < max_modes → get_or r k false ≡ (ltb k n && f k)) → n ≤ max_modes → Names n f r
names_made {n} {f} {r} size made few = record { size = size; each = λ k l. rw (lt-ltb k n l) at (made k (omega arith)); past = λ k l. pick k l (dec_lt k max_modes) }
  where
    pick : (k : ℕ) → n ≤ k → Dec (k < max_modes) → get_or r k false ≡ false
    pick k l (yes h) = rw (le-ltb k n l) at (made k h)
    pick k l (no h) = get_or-eq_default r false {n = k} (omega (arith, size))

pub names_more : {n : ℕ} {f : ℕ → Bool} {r : List Bool} → Names n f r → n < max_modes → (v : Bool) → v ≡ f n → Names (n + 1) f (set r n v)
names_more {n} {f} {r} h l v e =
    record { size = length-set r n v ∙ h.size; each = λ k s. pick k s (ℕ_discrete k n); past = λ k s. get_or-set_other r n k v false (λ q. omega arith) ∙ h.past k (omega arith) }
  where
    pick : (k : ℕ) → k < n + 1 → Dec (k ≡ n) → get_or (set r n v) k false ≡ f k
    pick k s (yes q) = let inside : n < length r = omega (arith, h.size) in rw (q) (get_or-set_same r n v false inside ∙ e)
    pick k s (no q) = get_or-set_other r n k v false q ∙ h.each k (omega arith)
