-- The heads of a tick, two in one number. Assumes nothing.
use mathlib.Core.Path.{◌≡◌, ◌∙◌, ap}
use mathlib.Core.List.{List}
use Prim.Native.Nat.{ℕ, ◌+◌, ◌*◌, ◌/◌, ◌%◌, ◌<◌}
use native.Mathlib.Decide.{dec_lt}
use native.Mathlib.Omega.{arith}
use borrow.Author.Tests.{eq-eqb, ne_eqb}
use Rattle.layers.specs.Step.{look}
use Rattle.heads.specs.Heads.{pair_at, pair_of, head_of, Packed}

-- Each head from its pair.

low_half : (x y : ℕ) → (x % 65536 + 65536 * (y % 65536)) % 65536 ≡ x % 65536
low_half x y = omega arith

high_half : (x y : ℕ) → (x % 65536 + 65536 * (y % 65536)) / 65536 ≡ y % 65536
high_half x y = omega arith

pub packed_head : (t : ℕ) (tops w w' : List ℕ) → Packed t 4 tops w w' → (j : ℕ) → j < 8 → head_of w' t j ≡ look tops j % 65536
unfolding head_of
packed_head t tops w w' new j l = pick (dec_lt 0 (j % 2))
  where
    pair : look w' (pair_at t (j / 2)) ≡ pair_of tops (j / 2)
    pair = new.here (j / 2) (omega arith)

    pick : Dec (0 < j % 2) → head_of w' t j ≡ look tops j % 65536
    pick (yes h) =
        let odd : 2 * (j / 2) + 1 ≡ j = omega arith in
        rw (ne_eqb (j % 2) 0 (omega arith), pair) (high_half (look tops (2 * (j / 2))) (look tops (2 * (j / 2) + 1)) ∙ ap (λ (x : ℕ). look tops x % 65536) odd)
    pick (no h) =
        let even : 2 * (j / 2) ≡ j = omega arith in
        rw (eq-eqb (j % 2) 0 (omega arith), pair) (low_half (look tops (2 * (j / 2))) (look tops (2 * (j / 2) + 1)) ∙ ap (λ (x : ℕ). look tops x % 65536) even)

-- where the pairs of a tick are as they were so are the heads
pub head_same : (w w' : List ℕ) (t : ℕ) → ((i : ℕ) → i < 4 → look w' (pair_at t i) ≡ look w (pair_at t i)) → (j : ℕ) → j < 8 → head_of w' t j ≡ head_of w t j
unfolding head_of
head_same w w' t same j l = rw (same (j / 2) (omega arith))
