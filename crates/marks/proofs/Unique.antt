-- `mark_entries` fixes every number of the marks. Assumes nothing.
use mathlib.Core.Path.{◌≡◌, sym, ◌∙◌}
use mathlib.Core.Bool.{true}
use mathlib.Core.List.{List}
use Prim.Native.Nat.{ℕ, zero, suc, ◌+◌, ◌*◌, ◌/◌, ◌%◌, ◌^◌, ◌<◌}
use native.Mathlib.Nat.{pow-zero, pow-succ', div-one, div-div-eq-div-mul, mod-lt}
use native.Mathlib.Decide.{dec_lt, ℕ_discrete as dec_eq}
use native.Mathlib.Omega.{arith}
use lib.Dec.{eqb}
use lib.ListN.{get_or}
use lib.Seq.{ext_get_or}
use borrow.Author.Tests.{eqb-true, eq-eqb}
use Rattle.memory.specs.Map.{mark_row_numbers, mark_row_ticks, mark_numbers}
use Rattle.layers.specs.declared.Shape.{Shape}
use Rattle.layers.specs.Layer.{Tells}
use Rattle.marks.specs.Marks.{marked}
use Rattle.marks.specs.Marking.{Entered}
use Rattle.marks.proofs.Bits.{bit}

-- numbers of n bits with the same bits are the same
bits_same : (n a b : ℕ) → a < 2 ^ n → b < 2 ^ n → ((i : ℕ) → i < n → bit a i ≡ bit b i) → a ≡ b
bits_same zero a b small small' same = omega (arith, rw pow-zero at small, rw pow-zero at small')
bits_same (suc n) a b small small' same =
    let halves : a / 2 ≡ b / 2 = bits_same n (a / 2) (b / 2) (omega (arith, rw pow-succ' at small)) (omega (arith, rw pow-succ' at small'))
    (λ i h. rw (div-div-eq-div-mul a 2 (2 ^ i), div-div-eq-div-mul b 2 (2 ^ i), ← pow-succ') (same (suc i) (omega arith))) in
    let last : a % 2 ≡ b % 2 = rw (pow-zero, div-one, div-one) at (same 0 (omega arith)) in
    omega arith

bit_same : (a b : ℕ) → a < 2 → b < 2 → (eqb a 1 ≡ true → eqb b 1 ≡ true) → (eqb b 1 ≡ true → eqb a 1 ≡ true) → a ≡ b
bit_same a b small small' to back = pick (dec_eq a 1) (dec_eq b 1)
  where
    pick : Dec (a ≡ 1) → Dec (b ≡ 1) → a ≡ b
    pick (yes e) d = e ∙ sym (eqb-true _ _ (to (eq-eqb _ _ e)))
    pick (no e) (yes d) = absurd (e (eqb-true _ _ (back (eq-eqb _ _ d))))
    pick (no e) (no d) = omega arith

-- the numbers of a slice have 32 bits
abbrev pub Small : List ℕ → Type 0
Small w = (x : ℕ) → get_or w x 0 < 2 ^ 32

module _ {s : Shape} {h : ℕ} {w numbers : List ℕ} (t : Tells s numbers) where
  -- what the one marks the other marks
  also : {u v : List ℕ} → Entered s h w u → Entered s h w v → (k x : ℕ) → k < 8 → x < mark_row_ticks → marked u k x ≡ true → marked v k x ≡ true
  also a b k x i j o =
      let (there, within) = a.inside k x i j o in
      (b.marks t.owner numbers t.rule t.told).complete k x within ((a.marks t.owner numbers t.rule t.told).sound k x (omega (arith, t.told.modes)) within o)

  -- mark_entries
  pub entered_unique : {u v : List ℕ} → Small u → Small v → Entered s h w u → Entered s h w v → u ≡ v
  entered_unique {u} {v} small small' a b = ext_get_or 0 u v (a.len ∙ sym b.len) (λ x l. pick x (dec_lt x mark_numbers))
    where
      digit : (x i : ℕ) → x < mark_numbers → i < 32 → bit (get_or u x 0) i ≡ bit (get_or v x 0) i
      digit x i h l =
          let k : ℕ = x / mark_row_numbers in
          let e : ℕ = 32 * (x % mark_row_numbers) + i in
          let number : mark_row_numbers * (x / mark_row_numbers) + (32 * (x % mark_row_numbers) + i) / 32 ≡ x = omega arith in
          let place : (32 * (x % mark_row_numbers) + i) % 32 ≡ i = omega arith in
          rw (number, place) at
          (bit_same (bit (get_or u (mark_row_numbers * k + e / 32) 0) (e % 32)) (bit (get_or v (mark_row_numbers * k + e / 32) 0) (e % 32)) (mod-lt _ (omega arith)) (mod-lt _ (omega arith))
          (also a b k e (omega arith) (omega arith)) (also b a k e (omega arith) (omega arith)))

      pick : (x : ℕ) → Dec (x < mark_numbers) → get_or u x 0 ≡ get_or v x 0
      pick x (yes i) = bits_same 32 (get_or u x 0) (get_or v x 0) (small x) (small' x) (λ j l. digit x j i l)
      pick x (no i) = a.above x (omega arith) ∙ sym (b.above x (omega arith))
