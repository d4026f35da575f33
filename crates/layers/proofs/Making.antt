-- An array that a function of the place makes, where the function's calls change nothing. Assumes nothing.
use mathlib.Core.Path.{◌≡◌, ◌∙◌, subst}
use mathlib.Core.List.{List}
use Prim.Native.Nat.{ℕ, zero, suc, ◌+◌, ◌≤◌, ◌<◌}
use native.Mathlib.Decide.{ℕ_discrete}
use native.Mathlib.Omega.{arith}
use lib.ListN.{get_or}
use denote.Param.Members.{Mut, Called}
use Rattle.std.specs.Array.{IsFromFnResult, IsFromFnResultFrom}

module _ {F B : Type 0} (g : Mut F (ℕ × Unit {0}) B) (f : F) (v : ℕ → B) (ys : List B) (top : ℕ) (call : (i : ℕ) (y : B) (q : F) → i < top → Called g f (i, tt) y q → (q ≡ f) × (y ≡ v i)) where
  made_from : (n a : ℕ) → a + n ≤ top → IsFromFnResultFrom g f ys a n → (i : ℕ) (d : B) → a ≤ i → i < a + n → get_or ys i d ≡ v i
  made_from zero a h m i d l r = absurd (omega arith)
  made_from (suc n) a h (q, y, there, called, rest) i d l r = pick (ℕ_discrete i a) (λ below. made_from n (a + 1) (omega arith) (subst (λ (p : F). IsFromFnResultFrom g p ys (a + 1) n) now.0 rest) i d below (omega arith))
    where
      now : (q ≡ f) × (y ≡ v a)
      now = call a y q (omega arith) called

      pick : Dec (i ≡ a) → (a + 1 ≤ i → get_or ys i d ≡ v i) → get_or ys i d ≡ v i
      pick (yes e) later = rw e (there.1 d ∙ now.1)
      pick (no e) later = later (omega arith)

  pub made : IsFromFnResult g f ys top → (i : ℕ) (d : B) → i < top → get_or ys i d ≡ v i
  made m i d h = made_from top 0 (omega arith) m.each i d (omega arith) (omega arith)
