-- Filling rows and stretches one place after the other. Assumes nothing.
use mathlib.Core.Path.{◌≡◌, refl, sym, ◌∙◌}
use mathlib.Core.List.{List, ◌++◌}
use denote.Param.Members.{Mut, Called}
use Rattle.std.specs.Array.{IsFromFnResultFrom, IsFromFnResult}
use Prim.Native.Nat.{ℕ, zero, suc, ◌+◌, ◌-◌, ◌≤◌, ◌<◌}
use native.Mathlib.Decide.{dec_lt, ℕ_discrete}
use native.Mathlib.Omega.{arith}
use lib.ListN.{length, get_or, set, take, length-set, length-append, get_or-append, get_or-eq_default, replicate, length-replicate, get_or-replicate}
use lib.Seq.{get_or-set_same, get_or-set_other, get_or-take, length-take-le, get_or-append-add}
use Rattle.table.specs.Rows.{Row}
use Rattle.table.specs.Numbers.{Written}

-- A stretch that is written.

pub written_none : (at : ℕ) (ns before : List ℕ) → Written at (take 0 ns) before before
written_none at ns before = record { size = refl; here = λ i l. absurd (omega arith); below = λ i l. refl; above = λ i l. refl }

pub written_more : (at i : ℕ) (ns before after : List ℕ) → Written at (take i ns) before after → i < length ns → at + length ns ≤ length before → (v : ℕ) → v ≡ get_or ns i 0 → Written at (take (i + 1) ns) before (set after (at + i) v)
written_more at i ns before after w l room v e =
    record {
      size = length-set after (at + i) v ∙ w.size;
      here = λ x s. here x (omega (arith, next)) (ℕ_discrete x i);
      below = λ x s. get_or-set_other after (at + i) x v 0 (λ q. omega arith) ∙ w.below x s;
      above = λ x s. get_or-set_other after (at + i) x v 0 (λ q. omega (arith, next)) ∙ w.above x (omega (arith, now, next));
    }
  where
    now : length (take i ns) ≡ i
    now = length-take-le i ns (omega arith)

    next : length (take (i + 1) ns) ≡ i + 1
    next = length-take-le (i + 1) ns (omega arith)

    here : (x : ℕ) → x < i + 1 → Dec (x ≡ i) → get_or (set after (at + i) v) (at + x) 0 ≡ get_or (take (i + 1) ns) x 0
    here x s (yes q) = let inside : at + i < length after = omega (arith, w.size) in rw (q, get_or-take (i + 1) ns i 0 (omega arith)) (get_or-set_same after (at + i) v 0 inside ∙ e)
    here x s (no q) =
        get_or-set_other after (at + i) (at + x) v 0 (λ z. q (omega arith))
        ∙ w.here x (omega (arith, now))
        ∙ get_or-take i ns x 0 (omega arith)
        ∙ sym (get_or-take (i + 1) ns x 0 s)

-- a row that holds xs and then 0, with ys written behind xs, holds xs and ys
pub row_written : (n : ℕ) (xs ys before after : List ℕ) → Row 0 n (λ i. get_or xs i 0) before → Written (length xs) ys before after → Row 0 n (λ i. get_or (xs ++ ys) i 0) after
row_written n xs ys before after r w = record { size = w.size ∙ r.size; each = λ i l. at i l (dec_lt i (length xs)) (dec_lt i (length xs + length ys)) }
  where
    at : (i : ℕ) → i < n → Dec (i < length xs) → Dec (i < length xs + length ys) → get_or after i 0 ≡ get_or (xs ++ ys) i 0
    at i l (yes a) b = w.below i a ∙ r.each i l ∙ sym (get_or-append xs ys 0 i a)
    at i l (no a) (yes b) =
        let y : ℕ = i - length xs in
        let e : i ≡ length xs + y = omega arith in
        rw (e) (w.here y (omega arith) ∙ sym (get_or-append-add xs ys y 0))
    at i l (no a) (no b) =
        w.above i (omega arith)
        ∙ r.each i l
        ∙ get_or-eq_default xs 0 (omega arith)
        ∙ sym (get_or-eq_default (xs ++ ys) 0 (omega (arith, length-append xs ys)))

-- What stands in a row of d.

pub row_blank : {A : Type 0} (d : A) (n : ℕ) (f : ℕ → A) → ((i : ℕ) → f i ≡ d) → Row d n f (replicate n d)
row_blank d n f e = record { size = length-replicate n d; each = λ i l. get_or-replicate n i d d l ∙ sym (e i) }

-- A row that a closure made, which stays as it is and gives w i at each index i.
module _ {A F : Type 0} (g : Mut F (ℕ × Unit {0}) A) (f : F) (d : A) (w : ℕ → A) (row : List A) (gives : (i : ℕ) (y : A) (q : F) → Called g f (i, tt) y q → (q ≡ f) × (y ≡ w i)) where
  made_from : (n i : ℕ) → IsFromFnResultFrom g f row i n → (x : ℕ) → i ≤ x → x < i + n → get_or row x d ≡ w x
  made_from zero i r x l h = absurd (omega arith)
  made_from (suc n) i (q, y, here, call, rest) x l h = at (ℕ_discrete x i) (λ s. made_from n (i + 1) (rw (gives i y q call).0 at rest) x s (omega arith))
    where
      at : Dec (x ≡ i) → (i + 1 ≤ x → get_or row x d ≡ w x) → get_or row x d ≡ w x
      at (yes e) later = rw e (here.1 d ∙ (gives i y q call).1)
      at (no e) later = later (omega arith)

  pub row_made : (n : ℕ) → IsFromFnResult g f row n → Row d n w row
  row_made n r = record { size = r.long; each = λ i l. made_from n 0 r.each i (omega arith) (omega arith) }
