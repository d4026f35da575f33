-- Tests of the numbers of a range. Assumes nothing.
use mathlib.Core.Path.{◌≡◌, refl, sym, ◌∙◌, ap, subst}
use mathlib.Core.Bool.{Bool, or-false, or_comm}
use mathlib.Core.List.{[], ◌∷◌, ◌++◌, map, map-id}
use Prim.Native.Nat.{ℕ, zero, suc, ◌+◌}
use native.Mathlib.Numerals.{add-one}
use native.Mathlib.Omega.{arith}
use Rattle.std.specs.List.{list_any, range_with_len}
use Rattle.std.proofs.lemmas.List.Folds.{list_any-append}
use Rattle.std.proofs.lemmas.List.FromFn.{map-range_with_len_more}
use Rattle.model.specs.Lists.{any_below}

-- one number more
pub number_more : {X : Type 0} (f : ℕ → X) (a n j : ℕ) → a + n ≡ j → map f (range_with_len a (suc n)) ≡ map f (range_with_len a n) ++ f j ∷ []
number_more f a n j e =
    subst (λ m. map f (range_with_len a m) ≡ map f (range_with_len a n) ++ f j ∷ []) (add-one n) (map-range_with_len_more f a n j e)

-- a test of the numbers below n
pub any_number : (t : ℕ → Bool) (n : ℕ) → list_any t (range_with_len 0 n) ≡ any_below t n
any_number t n = ap (list_any t) (sym (map-id (range_with_len 0 n))) ∙ all n
  where
    all : (n : ℕ) → list_any t (map (λ x. x) (range_with_len 0 n)) ≡ any_below t n
    all zero = refl
    all (suc n) =
        ap (list_any t) (number_more (λ x. x) 0 n n (omega arith)) ∙ list_any-append t (map (λ x. x) (range_with_len 0 n)) (n ∷ [])
        ∙ rw (all n, or-false (t n)) (or_comm (any_below t n) (t n))
